-- A run between two bytes of its input, and bytes of the input that are taken.
--   Position, start     how far the run is, the bytes of the line so far, and whether it goes on; the first one
--   prints_from         WHAT THE RUN PRINTS from a position on the rest of the input
--   Takes, Leads        bytes of the input lead from a position to another, and print a text; or some text
--   InParts, whole_of   an input that comes in parts, and what is printed of it; the whole of it
use Rattle.std.specs.Prelude.{◌≡◌, Bool, true, false, cond, List, [], ◌∷◌, ◌++◌, ℕ}
use Rattle.text.specs.Lines.{no_values}
use Rattle.turns.specs.Turns.{Progress, at_line}
use Rattle.script.specs.Runs.{lines_from, run_from}

pub record Position : Type 0 where
  pub progress : Progress
  pub begun : List ℕ
  pub on : Bool

-- before the first byte
abbrev pub start : Position
start = record { progress = at_line 1 no_values []; begun = []; on = true }

-- what the run prints from here on; nothing once it has stopped
unfoldable pub prints_from : Position → List ℕ → List ℕ
prints_from s input = cond s.on (run_from s.progress (lines_from s.begun input)) []

-- the text that is printed, followed by what the run prints from the next position, is what it prints from this one, whatever follows the
-- bytes
pub record Takes (s : Position) (bytes text : List ℕ) (t : Position) : Type 0 where
  pub whole : (rest : List ℕ) → prints_from s (bytes ++ rest) ≡ text ++ prints_from t rest

-- bytes of the input lead from a position to another, whatever they print
pub record Leads (s : Position) (bytes : List ℕ) (t : Position) : Type 0 where
  pub text : List ℕ
  pub takes : Takes s bytes text t

-- the parts are taken one after the other, up to the end of the input or until the run has stopped
pub data InParts : Position → List (List ℕ) → List ℕ → Type 0 where
  ended : {s : Position} {text : List ℕ} → text ≡ prints_from s [] → InParts s [] text
  stopped : {s : Position} {parts : List (List ℕ)} → s.on ≡ false → InParts s parts []
  taken : {s t : Position} {bytes text rest : List ℕ} {parts : List (List ℕ)} → Takes s bytes text t → InParts t parts rest
      → InParts s (bytes ∷ parts) (text ++ rest)

-- an input that comes in parts, as a whole
unfoldable pub whole_of : List (List ℕ) → List ℕ
whole_of [] = []
whole_of (bytes ∷ parts) = bytes ++ whole_of parts
