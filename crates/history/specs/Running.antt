-- What a run over places for outcomes leaves.
use Rattle.std.specs.Prelude.{◌≡◌, ℕ, min, List, map, length, take, drop, Option, Result}
use Rattle.builder.specs.Finishing.{record_of}
use Rattle.builder.specs.States.{State}
use Rattle.builder.specs.declared.finished.Finished.{Finished}
use Rattle.refusal.specs.Refusals.{Code, answer}
use Rattle.refusal.specs.declared.Refusal.{Refusal}
use Rattle.history.specs.Requests.{Request}
use Rattle.history.specs.Runs.{run_of, answers_of}
use Rattle.history.specs.declared.runner.Ran.{Ran}

-- what came of a call, as the code tells it: accepted, or refused
abbrev pub Outcome : Type 0
Outcome = Result (Unit {0}) Refusal

-- the first n places hold these answers, and the others are as they were
pub record Carried (n : ℕ) (answers : List (Option Code)) (before after : List Outcome) : Type 0 where
  pub kept : map answer (take n after) ≡ answers
  pub others : drop n after ≡ drop n before

-- the record of a builder that stands so
abbrev pub finished_state : State → Finished
finished_state m = record_of m.nullable m.rows m.used m.valid

-- a run from m over as many of the requests as there are places: the count, each outcome, all that the memory holds after, and the finished record
pub record RunsTo (ran : Ran) (m : State) (rs : List Request) (before after : List Outcome) (offsets : List ℕ) (free top : ℕ) (heap bits : List ℕ) : Type 0 where
  pub count : ran.carried ≡ min (length rs) (length before)
  pub outcomes : Carried ran.carried (answers_of m (take ran.carried rs)) before after
  pub offsets_are : offsets ≡ (run_of m (take ran.carried rs)).offsets
  pub free_is : free ≡ (run_of m (take ran.carried rs)).free
  pub top_is : top ≡ (run_of m (take ran.carried rs)).top
  pub heap_is : heap ≡ (run_of m (take ran.carried rs)).heap
  pub bits_are : bits ≡ (run_of m (take ran.carried rs)).bits
  pub record_is : ran.finished ≡ finished_state (run_of m (take ran.carried rs))
