-- What a decoder answers and writes: it means a list of bytes, or a fault.
use Rattle.std.specs.Prelude.{◌≡◌, ℕ, cond, List, length, take, Some, None, Option, nat_le}

-- over a part of n bytes: the length of the list, or a refusal on a fault or where the part is shorter than the list
abbrev pub decode_answer : Option (List ℕ) → ℕ → Option ℕ
decode_answer None n = None
decode_answer (Some xs) n = cond (nat_le (length xs) n) (Some (length xs)) None

-- where it does not refuse, the part begins with the list
abbrev pub Begins : Option (List ℕ) → Option ℕ → List ℕ → Type 0
Begins None r part = Unit {0}
Begins (Some xs) None part = Unit {0}
Begins (Some xs) (Some n) part = take n part ≡ xs
