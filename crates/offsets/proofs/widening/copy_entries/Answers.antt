-- One entry is copied in each turn.
use Rattle.std.proofs.Common.{◌≡◌, ◌<◌, map, take, length, ap, ◌∙◌, arith}
use Rattle.std.proofs.lemmas.List.{length-take-le, take_all}
use Rattle.ptype.specs.Integers.{integers_of}
use Rattle.ptype.proofs.Naturals.{amount_read}
use Rattle.offsets.specs.Stores.{held, amounts}
use Rattle.offsets.proofs.Held.{entry_is}
use Rattle.offsets.proofs.Kept.{copied_more}
use Rattle.offsets.proofs.widening.copy_entries.Goals as goal

pub loop-i-preserved : goal.loop-i-preserved
loop-i-preserved g c =
    let from = g.A.IntegerPType.value in
    let to = g.B.IntegerPType.value in
    let i = c.loop-i.i in
    let xs = take c.args.n c.args.from.now in
    let x = c.entry-item.result in
    let n = c.unwrap_or.result in
    let low : i < length xs = omega arith in
    let high : i < length c.loop-i.to = omega (arith, length-take-le c.args.n c.args.from.now c.requires.source) in
    copied_more from to i xs c.loop-i.to c.write_entry.new.entries n low high (entry_is from xs i x n low c.entry-item.is (amount_read n c.to_u64.result (from x) c.unwrap_or.ensures c.to_u64.ensures.value)) c.write_entry.ensures c.loop-i.invariant

pub returns : goal.returns
returns g c =
    let xs = take c.args.n c.args.from.now in
    let all : c.args.n ≡ c.loop-i.i = omega (arith, length-take-le c.args.n c.args.from.now c.requires.source) in
    ap (λ k. held g.B.IntegerPType.value k c.loop-i.to) all
    ∙ c.loop-i.invariant
    ∙ ap (λ l. integers_of (amounts (map g.A.IntegerPType.value l))) (take_all c.loop-i.i xs (omega arith))
