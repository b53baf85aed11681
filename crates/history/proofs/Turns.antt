-- One call more of a run.
use Rattle.std.proofs.Common.{◌≡◌, ℕ, ◌+◌, ◌<◌, ◌≤◌, min, List, [], ◌∷◌, ◌++◌, map, length, get_or, take, drop, set, sym, refl, ap, ◌∙◌, arith, length-take}
use lib.ListN.{length-map}
use Rattle.std.proofs.lemmas.List.{at_drop_more, at_drop_all, get_or-map, take_more_set, map_push, append_assoc, append-nil, drop-set-lt, drop-drop, take-map}
use Rattle.builder.specs.States.{State}
use Rattle.builder.specs.declared.finished.Finished.{Finished}
use Rattle.refusal.specs.Refusals.{answer}
use Rattle.history.specs.Requests.{Request, request_answer, request_after}
use Rattle.history.specs.Running.{Outcome, Carried, RunsTo, finished_state}
use Rattle.history.specs.Runs.{step, run_of, answers_of}

-- m is where the requests rs stand, from m0 on, after i of them, and the first i places hold their answers
pub record Sofar (m0 : State) (rs : List Request) (before : List Outcome) (i : ℕ) (m : State) (places : List Outcome) : Type 0 where
  pub goes : run_of m (drop i rs) ≡ run_of m0 rs
  pub says : map answer (take i places) ++ answers_of m (drop i rs) ≡ answers_of m0 rs
  pub others : drop i places ≡ drop i before

pub begin : (m : State) (rs : List Request) (places : List Outcome) → Sofar m rs places 0 m places
begin m rs places = record { goes = refl; says = refl; others = refl }

module _ (m0 : State) (rs : List Request) (before : List Outcome) (i : ℕ) (m : State) (places : List Outcome) (so : Sofar m0 rs before i m places) where
  pub more : (r : Request) (m1 : State) (o : Outcome) → i < length rs → i < length places → r ≡ get_or rs i r → answer o ≡ request_answer m r → m1 ≡ request_after m r (answer o) → Sofar m0 rs before (i + 1) m1 (set places i o)
  unfolding run_of answers_of
  more r m1 o h k is said after =
      let stepped : m1 ≡ step m r = after ∙ ap (request_after m r) said in
      record {
        goes = ap (λ s. run_of s (drop (i + 1) rs)) stepped ∙ ap (λ x. run_of (step m x) (drop (i + 1) rs)) is ∙ sym (at_drop_more (run_of m) rs i r h) ∙ so.goes;
        says =
            ap (λ l. map answer l ++ answers_of m1 (drop (i + 1) rs)) (take_more_set places i o k)
            ∙ ap (λ l. l ++ answers_of m1 (drop (i + 1) rs)) (map_push answer (take i places) o)
            ∙ append_assoc (map answer (take i places)) (answer o ∷ []) (answers_of m1 (drop (i + 1) rs))
            ∙ ap (λ l. map answer (take i places) ++ l) ((λ t. said t ∷ answers_of (stepped t) (drop (i + 1) rs)) ∙ ap (λ x. request_answer m x ∷ answers_of (step m x) (drop (i + 1) rs)) is ∙ sym (at_drop_more (answers_of m) rs i r h))
            ∙ so.says;
        others = drop-set-lt (i + 1) places i o (omega arith) ∙ sym (drop-drop 1 i places) ∙ ap (drop 1) so.others ∙ drop-drop 1 i before;
      }

  pub ends_memory : length rs ≤ i → m ≡ run_of m0 rs
  unfolding run_of
  ends_memory h = sym (at_drop_all (run_of m) rs i h) ∙ so.goes

  pub ends_told : length rs ≤ i → Carried i (answers_of m0 rs) before places
  unfolding answers_of
  ends_told h = record { kept = sym (append-nil (map answer (take i places))) ∙ ap (λ l. map answer (take i places) ++ l) (sym (at_drop_all (answers_of m) rs i h)) ∙ so.says; others = so.others }

-- the request of call i among the first n
pub request_at : {C : Type 0} (f : C → Request) (calls : List C) (i : ℕ) (c : C) → i < length calls → c ≡ get_or calls i c → f c ≡ get_or (map f calls) i (f c)
request_at f calls i c h is = ap f is ∙ sym (get_or-map f calls i c (f c) h)

pub requests_long : {C : Type 0} (f : C → Request) (calls : List C) (n : ℕ) → n ≤ length calls → length (map f (take n calls)) ≡ n
requests_long f calls n le = omega (arith, length-map (take n calls) f, length-take n calls)

-- a whole run, by what its parts tell
pub settled : {C : Type 0} (f : C → Request) (calls : List C) (before after : List Outcome) (n : ℕ) (finished : Finished) (m0 m m1 : State) → m ≡ m0 → n ≡ min (length calls) (length before) → m1 ≡ run_of m (map f (take n calls)) → Carried n (answers_of m (map f (take n calls))) before after → finished ≡ finished_state m1 → RunsTo (record { finished = finished; carried = n }) m0 (map f calls) before after m1.offsets m1.free m1.top m1.heap m1.bits
settled f calls before after n finished m0 m m1 start count goes told ends =
    let all : m1 ≡ run_of m0 (take n (map f calls)) = goes ∙ (λ t. run_of (start t) (sym (take-map f n calls) t)) in
    record {
      count = count ∙ ap (λ k. min k (length before)) (sym (length-map calls f));
      outcomes = record { kept = told.kept ∙ (λ t. answers_of (start t) (sym (take-map f n calls) t)); others = told.others };
      offsets_are = ap (λ (m : State). m.offsets) all;
      free_is = ap (λ (m : State). m.free) all;
      top_is = ap (λ (m : State). m.top) all;
      heap_is = ap (λ (m : State). m.heap) all;
      bits_are = ap (λ (m : State). m.bits) all;
      record_is = ends ∙ ap finished_state all;
    }
