use Rattle.std.proofs.Common.{◌≡◌, [], ◌++◌, ◌∙◌, ap}
use Rattle.std.proofs.lemmas.List.{append-nil}
use Rattle.ethernet_channel.specs.FastStream.{Channel}
use Rattle.ethernet_channel.proofs.EncodingTable.{idle_bits}
use Rattle.ethernet_channel.proofs.writer.FastWriter.begin.Goals as goal

pub returns : goal.returns
returns c =
    let none : c.in_ok-begin.field-0 ≡ record { frame = []; queue = [] } = c.in_ok-begin.ensures in
    ap (λ f. let x : Channel = record { rest = c.new.result ++ []; queue = f.queue } in x) none
    ∙ ap (λ bits. let x : Channel = record { rest = bits; queue = [] } in x) (append-nil c.new.result ∙ c.new.ensures ∙ idle_bits)
