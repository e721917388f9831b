-- The map of a call.
--   RightMap     no map, or one of the right length
--   NoneMarked   one that marks no cell of the page
use Rattle.std.specs.Prelude.{◌≡◌, false, List, ℕ, ◌<◌, ◌*◌}
use Rattle.std.proofs.Math.Option.{Option, none}
use Rattle.codes.specs.Layouts.{one_bit, cell_count}
use Rattle.refusals.specs.Refusals.{map_ground}
use Rattle.page_promises.specs.Writes.{marked_by, map_size}

-- no map, or one of the right length: 11 is no ground of it
abbrev pub RightMap : (L S : ℕ) → Option (List ℕ) → Type 0
RightMap L S map = map_ground one_bit L S (map_size map) ≡ none

-- and it marks no cell of the page
pub record NoneMarked (L S : ℕ) (map : Option (List ℕ)) : Type 0 where
  pub right : RightMap L S map
  pub none_marked : (c : ℕ) → c < cell_count one_bit L * S → marked_by map c ≡ false
