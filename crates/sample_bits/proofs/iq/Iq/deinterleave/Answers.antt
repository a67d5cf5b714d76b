use Rattle.std.proofs.Common.{◌∙◌, sym, rules, arith, w32, FitsSigned}
use Rattle.std.proofs.lemmas.Int.{to_z-of_z}
use Rattle.sample_bits.specs.declared.iq.RawIq.{RawIq as Raw}
use Rattle.sample_bits.proofs.SampleLemmas.{gathered-even_lt, gathered-odd_lt, gathered-sample, same_from_sample_bits}
use Rattle.sample_bits.proofs.iq.Iq.deinterleave.Goals as goal

pub signed-requires-clause-within : goal.signed-requires-clause-within
signed-requires-clause-within g c = gathered-even_lt g.row.M c.args.word c.unweave-even.result.0 c.requires.bits c.unweave-even.ensures.even

pub signed-requires-2-clause-within : goal.signed-requires-2-clause-within
signed-requires-2-clause-within g c = gathered-odd_lt g.row.M c.args.word c.unweave-even.result.1 c.requires.bits c.unweave-even.ensures.odd

pub returns-clause-bits : goal.returns-clause-bits
returns-clause-bits g c k h =
    let s : Raw = record { i = c.signed.result; q = c.signed-2.result } in
    let i_fits : FitsSigned w32 c.signed.result = search rules in
    let q_fits : FitsSigned w32 c.signed-2.result = search rules in
    simp to_z-of_z (gathered-sample g.row.M s c.args.word c.unweave-even.result.0 c.unweave-even.result.1 c.unweave-even.ensures.even c.unweave-even.ensures.odd c.signed.ensures.bits c.signed-2.ensures.bits k h)

pub returns-clause-only : goal.returns-clause-only
returns-clause-only g c v within same =
    let s : Raw = record { i = c.signed.result; q = c.signed-2.result } in
    let i_fits : FitsSigned w32 c.signed.result = search rules in
    let q_fits : FitsSigned w32 c.signed-2.result = search rules in
    let bits = gathered-sample g.row.M s c.args.word c.unweave-even.result.0 c.unweave-even.result.1 c.unweave-even.ensures.even c.unweave-even.ensures.odd c.signed.ensures.bits c.signed-2.ensures.bits in
    simp to_z-of_z (same_from_sample_bits g.row.M v s (omega arith) within (record { i = c.signed.ensures.within; q = c.signed-2.ensures.within }) (λ k h. same k h ∙ sym (bits k h)))
