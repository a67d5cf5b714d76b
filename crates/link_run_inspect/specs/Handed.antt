-- What is kept of both channels.
use Rattle.std.specs.Prelude.{◌≡◌}
use Rattle.hdlc_channel.specs.Reader.{StandsFor as SlowStandsFor}
use Rattle.ethernet_channel.specs.Keeps.{StandsFor as FastStandsFor}
use Rattle.link_run_inspect.specs.declared.channels.Channels.{Channels}
use Rattle.link_run_inspect.specs.Managed.{Managed}

-- the channels were handed these bits
pub record Manages (c : Channels) (m : Managed) : Type 0 where
  pub announced : c.announced ≡ m.announced
  pub slow : SlowStandsFor c.slow m.slow
  pub fast : FastStandsFor c.fast m.fast
