use Rattle.link_run_delay.proofs.PlainPlans.{AddressesAreOctets-plan_of}
use Rattle.link_run_delay.proofs.laws.read_addresses_are_octets.Goals as goal

pub returns : goal.returns
returns c = AddressesAreOctets-plan_of
