-- The rate and the width of the samples of an antenna carrier (CPRI V7.0, section 4.2.7.2).
use Rattle.carrier_plan.specs.declared.plan.Carrier.{Carrier}
use Rattle.sample_bits.specs.SampleRate.{IsSampleRate, IsSampleWidth}

abbrev pub HasSampleRate : Carrier → Type 0
HasSampleRate c = IsSampleRate c.s c.k

abbrev pub HasSampleWidth : Carrier → Type 0
HasSampleWidth c = IsSampleWidth c.m
