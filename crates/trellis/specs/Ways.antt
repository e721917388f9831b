-- The stages of a strip in the plain search, and what the program keeps of the ways through them.
--   next_for                the next state
--   stages_for, costs_for   k stages from stage t on, and what they cost from each state
--   Shaped                  what the search of a strip asks
--   Traced                  the history has the trail of each state that has a cost, eight stages a byte
--   Lows                    the bits that the first cells show, eight stages a byte
--   Followed                digits that the history and these bits give
use Rattle.std.specs.Prelude.{◌≡◌, Bool, List, ℕ, ◌+◌, ◌-◌, ◌*◌, ◌^◌, ◌<◌, ◌≤◌, get_or, length}
use Rattle.std.proofs.Math.Option.{Option, none}
use Rattle.std.specs.Int.Bits.{bit_xor}
use Rattle.cells.specs.Levels.{level}
use Rattle.codes.specs.Generators.{Generators}
use Rattle.codes.specs.Layouts.{one_bit, byte_count}
use Rattle.codes.specs.Taps.{taps_of, window_of, first_bit}
use Rattle.codes.specs.Blocks.{Gives}
use Rattle.search.specs.Search.{Stage}
use Rattle.search.specs.Plan.{costs}
use Rattle.search.specs.Numbered.{next_n}
use Rattle.stages.specs.Stage.{ceiling, words_of}
use Rattle.rows.specs.Stages.{encoder_for, stage_for, quote_for}
use Rattle.stages.specs.Trails.{stages_from, price_by, trail_of}

-- the state that follows
abbrev pub next_for : Generators → Stage → ℕ → Bool → ℕ
next_for G = next_n (encoder_for G)

-- k stages of a strip from stage t on
abbrev pub stages_for : Generators → List ℕ → (ℕ → Bool) → List ℕ → ℕ → ℕ → List Stage
stages_for G strip marks content = stages_from (stage_for G strip marks content)

-- what stages cost from each state
abbrev pub costs_for : Generators → List ℕ → List Stage → ℕ → Option ℕ
costs_for G W = costs (price_by (words_of G) (quote_for W) (next_for G)) (next_for G)

-- the trail of the first k stages
abbrev pub trail_for : Generators → List ℕ → ℕ → List Stage → ℕ → ℕ
trail_for G W = trail_of (words_of G) (quote_for W) (next_for G)

-- the stages of block q and those after it, of n blocks
abbrev pub blocks_for : Generators → List ℕ → (ℕ → Bool) → List ℕ → ℕ → ℕ → List Stage
blocks_for G strip marks content n q = stages_for G strip marks content (8 * q) (8 * (n - q))

-- what the search of a strip asks: a table that is cut off, data of at most 64 bytes and a strip for them
pub record Shaped (rows strip content : List ℕ) : Type 0 where
  pub cut : (k : ℕ) → get_or rows k 0 ≤ ceiling
  pub size : length strip ≡ byte_count one_bit (length content)
  pub most : length content ≤ 64

-- the history of n blocks: the trail of each state before block q that has a cost. What stands there for another state is free
pub record Traced (G : Generators) (W strip : List ℕ) (marks : ℕ → Bool) (content history : List ℕ) : Type 0 where
  pub trails : (q : ℕ) → q < length content → (s : ℕ) → s < 2 ^ G.memory
      → (costs_for G W (blocks_for G strip marks content (length content) q) s ≡ none → ⊥)
      → get_or history (64 * q + s) 0 ≡ trail_for G W 8 (blocks_for G strip marks content (length content) q) s

-- the bits that the first cells of n blocks show
pub record Lows (strip : List ℕ) (n : ℕ) (lows : List ℕ) : Type 0 where
  pub shown : (q : ℕ) → q < n → get_or lows q 0 ≡ window_of 8 (first_bit (level strip)) (8 * (q + 1))

-- digits u over n blocks that, times G1, give the first code bits that the history and the lows tell
pub record Followed (G : Generators) (lows history : List ℕ) (n : ℕ) (u : ℕ → ℕ) : Type 0 where
  pub bits : (t : ℕ) → u t < 2
  pub gives : (q : ℕ) → q < n → Gives (taps_of G.memory G.g1) (window_of 8 u (8 * q) * 256 + window_of 8 u (8 * (q + 1)))
      (bit_xor (get_or history (64 * q + window_of G.memory u (8 * q)) 0) (get_or lows q 0)) 0
