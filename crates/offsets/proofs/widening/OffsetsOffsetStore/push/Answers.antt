-- An accepted offset is written at the width that the store has once it has widened where it must.
use Rattle.std.proofs.Common.{◌≡◌, ◌+◌, ◌<◌, [], ◌∷◌, ◌++◌, length, sym, refl, ap, ◌∙◌, subst, arith}
use Rattle.offsets.specs.declared.widening.Offsets.{Offsets}
use Rattle.offsets.proofs.Widths.{offsets, copied, written_wide, written_narrow}
use Rattle.offsets.proofs.widening.OffsetsOffsetStore.push.Goals as goal
use Rattle.offsets.proofs.widening.OffsetsOffsetStore.push.Goals.{then-not-self+then-offset-max_value_as_u64, else-not-self, then-self, else-self}

pub returns-clause-after : goal.returns-clause-after
returns-clause-after g c =
    let narrow = g.N.IntegerPType.value in
    let wide = g.N.Wide.IntegerPType.value in
    let offset = c.args.offset in
    let s = c.args.self.now in
    let t = c.if-not-self.self in
    let e = c.if-self.self in
    let Same : Offsets g.row.N.Denot g.row.N-Wide.Denot → Type 0 = λ u. (u.used ≡ s.used) × (length u.narrow.now ≡ length s.narrow.now) × (length u.wide.now ≡ length s.wide.now) × (offsets narrow wide u.widened u.used u.narrow.now u.wide.now ≡ offsets narrow wide s.widened s.used s.narrow.now s.wide.now) in
    let More : Offsets g.row.N.Denot g.row.N-Wide.Denot → Type 0 = λ u. offsets narrow wide u.widened (u.used + 1) u.narrow.now u.wide.now ≡ offsets narrow wide t.widened t.used t.narrow.now t.wide.now ++ offset ∷ [] in
    let same : Same t = elim c.if-not-self.branch [
      | then-not-self+then-offset-max_value_as_u64 w ↦
          (let u = w.widen.new.self in
          subst Same (sym w.self-is) (w.widen.ensures.used.0, ap length w.widen.ensures.narrow, w.widen.ensures.wide, ap (λ k. offsets narrow wide u.widened k u.narrow.now u.wide.now) w.widen.ensures.used.0 ∙ copied narrow wide s.widened u.widened s.used s.narrow.now u.narrow.now s.wide.now u.wide.now w.if-not-self.true w.widen.ensures.used.1 w.widen.ensures.copied))
      | else-not-self w ↦ subst Same (sym w.self-is) (refl, refl, refl, refl)
    ] in
    let low : t.used < length t.narrow.now = omega arith in
    let high : t.used < length t.wide.now = omega arith in
    let more : More e = elim c.if-self.branch [
      | then-self w ↦
          subst More (sym w.self-is) (written_wide narrow wide t.widened t.used offset t.narrow.now t.wide.now w.write_entry.new.entries w.if-self.true high w.write_entry.ensures)
      | else-self w ↦
          subst More (sym w.self-is) (written_narrow narrow wide t.widened t.used offset t.narrow.now w.write_entry-else-self.new.entries t.wide.now w.if-self.false low w.write_entry-else-self.ensures)
    ] in
    more ∙ ap (λ l. l ++ offset ∷ []) same.3
