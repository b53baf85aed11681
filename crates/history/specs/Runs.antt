-- Requests carried out one after the other: the answers, and where builder and memory stand after them.
use Rattle.std.specs.Prelude.{List, [], ◌∷◌, Option}
use Rattle.builder.specs.States.{State}
use Rattle.refusal.specs.Refusals.{Code}
use Rattle.history.specs.Requests.{Request, request_answer, request_after}

-- one request
abbrev pub step : State → Request → State
step m r = request_after m r (request_answer m r)

unfoldable pub run_of : State → List Request → State
run_of m [] = m
run_of m (r ∷ rs) = run_of (step m r) rs

unfoldable pub answers_of : State → List Request → List (Option Code)
answers_of m [] = []
answers_of m (r ∷ rs) = request_answer m r ∷ answers_of (step m r) rs
