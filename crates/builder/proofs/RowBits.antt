-- The bits of the rows, one row more.
use Rattle.std.proofs.Common.{◌≡◌, ℕ, ◌+◌, ◌*◌, ◌<◌, Bool, false, cond, ◌&&◌, ltb, List, [], ◌∷◌, ◌++◌, length, get_or, sym, ap, ◌∙◌, ⊎_elim, arith, length-append}
use Rattle.std.proofs.lemmas.List.{ext_get_or, get_or_append_left, get_or_at}
use Rattle.std.proofs.lemmas.Bool.{cases_eq, eq-eqb, ne_eqb, lt-ltb}
use Rattle.mask.specs.Bits.{bit_at, put_bit}
use Rattle.mask.specs.Masks.{bit_flags}
use Rattle.mask.proofs.Flags.{length_bits, flag_at, bit_put}

pub row_bits : (bits : List ℕ) (rows : ℕ) (v : Bool) → rows < 8 * length bits → bit_flags (rows + 1) (put_bit bits rows v) ≡ bit_flags rows bits ++ v ∷ []
row_bits bits rows v h = ext_get_or false (bit_flags (rows + 1) (put_bit bits rows v)) (bit_flags rows bits ++ v ∷ []) long each
  where
    long : length (bit_flags (rows + 1) (put_bit bits rows v)) ≡ length (bit_flags rows bits ++ v ∷ [])
    long = length_bits (rows + 1) (put_bit bits rows v) ∙ sym (length-append (bit_flags rows bits) (v ∷ []) ∙ ap (λ n. n + 1) (length_bits rows bits))

    each : (k : ℕ) → k < length (bit_flags (rows + 1) (put_bit bits rows v)) → get_or (bit_flags (rows + 1) (put_bit bits rows v)) k false ≡ get_or (bit_flags rows bits ++ v ∷ []) k false
    each k lt =
        let l : k < rows + 1 = omega (arith, length_bits (rows + 1) (put_bit bits rows v)) in
        flag_at (rows + 1) (put_bit bits rows v) k l ∙ bit_put bits rows v k
        ∙ ⊎_elim
        (λ (e : k ≡ rows).
        (λ t. cond (eq-eqb k rows e t && lt-ltb k (8 * length bits) (omega arith) t) v (bit_at bits k))
        ∙ sym (get_or_at (bit_flags rows bits) v [] false k (length_bits rows bits ∙ sym e)))
        (λ (ne : k ≡ rows → ⊥).
        let less : k < rows = omega arith in
        (λ t. cond (ne_eqb k rows ne t && ltb k (8 * length bits)) v (bit_at bits k))
        ∙ sym (get_or_append_left (bit_flags rows bits) (v ∷ []) false k (omega (arith, length_bits rows bits)) ∙ flag_at rows bits k less))
        (cases_eq k rows)
