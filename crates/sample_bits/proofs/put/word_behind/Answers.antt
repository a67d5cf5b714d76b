use Rattle.std.proofs.Common.{◌+◌, ◌∙◌, ap}
use Rattle.std.specs.Int.{bit_at}
use Rattle.sample_bits.proofs.PutLemmas.{behind_of, behind-octet, behind-word}
use Rattle.sample_bits.proofs.put.word_behind.Goals as goal

pub returns-clause-octet : goal.returns-clause-octet
returns-clause-octet c j h =
    ap (λ v. bit_at (behind_of v c.args.bit c.args.word) j) c.from.ensures ∙ behind-octet c.args.octet c.args.bit c.args.word j c.requires h

pub returns-clause-word : goal.returns-clause-word
returns-clause-word c j h =
    ap (λ v. bit_at (behind_of v c.args.bit c.args.word) (c.args.bit + j)) c.from.ensures ∙ behind-word c.args.octet c.args.bit c.args.word j c.requires h
