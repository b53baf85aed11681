-- Sample column K, and what opening answers for it.
use Rattle.std.specs.Prelude.{◌≡◌, true, false, [], ◌∷◌, pos, None}
use Rattle.ptype.specs.Integers.{integers_of}
use Rattle.mask.specs.Masks.{bit_flags}
use Rattle.slots.specs.Rows.{null, bytes}
use Rattle.array.specs.declared.sample.Sample.{Sample}
use Rattle.array.specs.Columns.{column_rows}
use Rattle.array.specs.Opening.{layout_check, text_check, open_answer}

-- three rows: 47 37, null over the hidden bytes 58 58, and C2 B5 6D
abbrev pub sample_k : Sample
sample_k = record {
  offsets = pos 0 ∷ pos 2 ∷ pos 4 ∷ pos 7 ∷ [];
  heap = 0x47 ∷ 0x37 ∷ 0x58 ∷ 0x58 ∷ 0xC2 ∷ 0xB5 ∷ 0x6D ∷ [];
  bits = 5 ∷ [];
}

pub record OpeningExamples : Type 0 where
  pub k_layout : layout_check sample_k.offsets 7 ≡ None
  pub k_text : text_check sample_k.offsets sample_k.heap (bit_flags 3 sample_k.bits) ≡ None
  pub k_rows : column_rows sample_k.offsets sample_k.heap (bit_flags 3 sample_k.bits) ≡ bytes (0x47 ∷ 0x37 ∷ []) ∷ null ∷ bytes (0xC2 ∷ 0xB5 ∷ 0x6D ∷ []) ∷ []
  pub empty_as_text : open_answer false true (integers_of (0 ∷ 0 ∷ [])) (0xB5 ∷ []) None ≡ None
  pub empty_as_bytes : open_answer false false (integers_of (0 ∷ 0 ∷ [])) (0xB5 ∷ []) None ≡ None
