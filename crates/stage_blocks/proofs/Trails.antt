-- THE MARKED SEARCH IS THE PLAIN SEARCH: the number of each state tells its cost and the trail of its plan.
--   stage-decoded   one stage
--   run-decoded     the stages of a block
use mathlib.Core.Path.{◌≡◌, refl, sym, ◌∙◌, ap, ap₂, subst}
use mathlib.Core.Bool.{Bool, true, false, cond, not, beq}
use mathlib.Core.List.{List, [], ◌∷◌}
use mathlib.Core.Option.{Option}
use Prim.Native.Nat.{ℕ, zero, suc, ◌+◌, ◌-◌, ◌*◌, ◌%◌, ◌^◌, ◌≤◌, ◌<◌, min}
use native.Mathlib.Omega.{arith}
use native.Mathlib.Nat.{mul-le-mul, le_refl, pow-suc}
use lib.Pow.{pow_pos, pow_mono}
use Rattle.codes.specs.Sequences.{◌+₂◌, odd}
use Rattle.codes.specs.Numbers.{one-if}
use Rattle.codes.proofs.Numbers.{sum-bits, one-if-le}
use Rattle.search.specs.Plan.{add, lesser, turn, way, costs, digit_at}
use Rattle.search.specs.Plain.{Prices, branch_word, branch_price, branch_tie}
use Rattle.search.proofs.Windows.{mod-odd}
use Rattle.stages.specs.Stage.{stage_of}
use Rattle.stage_blocks.specs.Blocks.{pick_at, flag_of, marked_of, block_of}
use Rattle.stages.specs.Costs.{Decodes, Trailed}
use Rattle.stages.specs.Trails.{stages_from, price_by, tie_by, miss_of, digit_of, trail_of, Quoted}
use Rattle.stage_blocks.proofs.Costs.{decoded-way, decoded-least}

-- FLAGS. Two bits differ just where their sum is 1
differ : (a b : Bool) → (a +₂ b) ≡ not (beq a b)
differ true true = refl
differ true false = refl
differ false true = refl
differ false false = refl

-- the flag of a word is its branch's miss
flag-miss : (stay : Bool) (j : ℕ) → flag_of (one-if stay) j ≡ one-if (not (beq stay (odd j)))
unfolding flag_of
flag-miss stay j =
    let e : (one-if stay + j) % 2 ≡ (one-if stay + j % 2) % 2 = omega arith in
    e ∙ ap (λ (n : ℕ). (one-if stay + n) % 2) (mod-odd j) ∙ sum-bits stay (odd j) ∙ ap one-if (differ stay (odd j))

-- a flag is 0 or 1
flag-le : (low j : ℕ) → flag_of low j ≤ 1
unfolding flag_of
flag-le low j = omega arith

-- the two branches of a state have different flags
flag-other : (low w : ℕ) → w ≤ 3 → flag_of low (3 - w) + flag_of low w ≡ 1
unfolding flag_of
flag-other low w h = omega arith

-- whether the digit 1 wins a tie: its word has no flag
flag-tie : (stay : Bool) (j : ℕ) (b : Bool) → beq stay (odd j) ≡ b → flag_of (one-if stay) j ≡ one-if (not b)
flag-tie stay j b e = flag-miss stay j ∙ ap (λ (c : Bool). one-if (not c)) e

module _ {G : Type 0} (n : ℕ) (words : ℕ → ℕ) (words_le : (s : ℕ) → words s ≤ 3) (quote : G → Prices) (next : G → ℕ → Bool → ℕ)
    (inside : (s : ℕ) → 2 * s % n + 1 < n) (next-zero : (g : G) (s : ℕ) → next g s false ≡ 2 * s % n)
    (next_one : (g : G) (s : ℕ) → next g s true ≡ 2 * s % n + 1) where
  -- the cost of a branch, and the rest of its trail
  abbrev cost_by : List G → ℕ → Option ℕ
  cost_by = costs (price_by words quote next) next

  abbrev trail_by : ℕ → List G → ℕ → ℕ
  trail_by = trail_of words quote next

  -- a trail of k stages is below 2 ^ k
  trail-less : (k : ℕ) (gs : List G) (s : ℕ) → trail_by k gs s < 2 ^ k
  unfolding trail_of miss_of
  trail-less zero gs s = omega arith
  trail-less (suc k) [] s = pow_pos (suc k)
  trail-less (suc k) (g ∷ gs) s =
      let u : Bool = digit_of words quote next g gs s in
      let e : ℕ = miss_of words quote next g s u in
      let p : e * 2 ^ k ≤ 1 * 2 ^ k = mul-le-mul (one-if-le _) (le_refl (2 ^ k)) in
      omega (arith, trail-less k gs (next g s u), pow-suc 2 k)

  -- ONE STAGE: prices in units, each with its flag at the bit k, before states whose trails are k stages long
  module _ (unit shut_at b m k : ℕ) (g : G) (gs : List G) (prices plain after : ℕ → ℕ)
      (priced : (j : ℕ) → j ≤ 3 → prices j ≡ unit * plain j + flag_of (one-if (quote g).stay) j * 2 ^ k)
      (tells : (j : ℕ) → j ≤ 3 → Decodes shut_at b (plain j) ((quote g).of j))
      (told : (s : ℕ) → s < n → Trailed unit shut_at m k (after s) (cost_by gs s) (trail_by k gs s))
      (room : b + m < shut_at) (fits : 2 ^ suc k ≤ unit) where
    -- a branch by its word j and its next state x
    branch-decoded : (j x : ℕ) → j ≤ 3 → x < n
        → Trailed unit shut_at (b + m) (suc k) (after x + prices j) (add ((quote g).of j) (cost_by gs x))
        (flag_of (one-if (quote g).stay) j * 2 ^ k + trail_by k gs x)
    branch-decoded j x h l =
        subst (λ (v : ℕ). Trailed unit shut_at (b + m) (suc k) (after x + v) (add ((quote g).of j) (cost_by gs x))
        (flag_of (one-if (quote g).stay) j * 2 ^ k + trail_by k gs x)) (sym (priced j h))
        (decoded-way unit shut_at (flag-le (one-if (quote g).stay) j) (tells j h) (told x l))

    -- the branches of the state s
    module _ (s : ℕ) where
      abbrev w : ℕ
      w = words s

      abbrev x : ℕ
      x = 2 * s % n

      abbrev low : ℕ
      low = one-if (quote g).stay

      -- the lower trail is that of the branch without a flag
      lower : (f h t u : ℕ) → f ≡ 0 → h ≡ 1 → t < 2 ^ k → f * 2 ^ k + t < h * 2 ^ k + u
      lower f h t u p q l = let z : f * 2 ^ k ≡ 0 * 2 ^ k = ap (λ (y : ℕ). y * 2 ^ k) p in
          let y : h * 2 ^ k ≡ 1 * 2 ^ k = ap (λ (y : ℕ). y * 2 ^ k) q in omega arith

      one_lower : (t u : ℕ) → t < 2 ^ k → beq (quote g).stay (odd (3 - w)) ≡ true
          → flag_of low (3 - w) * 2 ^ k + t < flag_of low w * 2 ^ k + u
      unfolding one-if
      one_lower t u l e =
          let f : flag_of low (3 - w) ≡ 0 = flag-tie (quote g).stay (3 - w) true e in
          let h : flag_of low w ≡ 1 = omega (arith, flag-other low w (words_le s)) in
          lower (flag_of low (3 - w)) (flag_of low w) t u f h l

      zero-lower : (t u : ℕ) → t < 2 ^ k → beq (quote g).stay (odd (3 - w)) ≡ false
          → flag_of low w * 2 ^ k + t < flag_of low (3 - w) * 2 ^ k + u
      unfolding one-if
      zero-lower t u l e =
          let h : flag_of low (3 - w) ≡ 1 = flag-tie (quote g).stay (3 - w) false e in
          let f : flag_of low w ≡ 0 = omega (arith, flag-other low w (words_le s)) in
          lower (flag_of low w) (flag_of low (3 - w)) t u f h l

      -- what the trail is with each digit
      trail-by : (u : Bool) → miss_of words quote next g s u * 2 ^ k + trail_by k gs (next g s u)
          ≡ cond u (flag_of low (3 - w) * 2 ^ k + trail_by k gs (x + 1)) (flag_of low w * 2 ^ k + trail_by k gs x)
      unfolding miss_of branch_word
      trail-by true = rw (next_one g s, flag-miss (quote g).stay (3 - w))
      trail-by false = rw (next-zero g s, flag-miss (quote g).stay w)

      -- the number of the state tells the lesser branch, and its trail
      pub stage-decoded : Trailed unit shut_at (b + m) (suc k) (stage_of n words prices after s) (cost_by (g ∷ gs) s) (trail_by (suc k)
          (g ∷ gs) s)
      unfolding stage_of costs way branch_price branch_word trail_of digit_of digit_at branch_tie
      stage-decoded =
          let o = add ((quote g).of w) (cost_by gs x) in
          let p = add ((quote g).of (3 - w)) (cost_by gs (x + 1)) in
          let near : x < n = omega (arith, inside s) in
          let other : 3 - w ≤ 3 = omega arith in
          rw (next-zero g s, next_one g s)
          (subst (λ (t : ℕ). Trailed unit shut_at (b + m) (suc k) (min (after x + prices w) (after (x + 1) + prices (3 - w)))
          (lesser o p) t)
          (sym (trail-by (turn o p (tie_by words quote next g s))))
          (decoded-least unit shut_at (tie_by words quote next g s) room fits
          (λ e. one_lower (trail_by k gs (x + 1)) (trail_by k gs x) (trail-less k gs (x + 1)) e)
          (λ e. zero-lower (trail_by k gs x) (trail_by k gs (x + 1)) (trail-less k gs x) e)
          (branch-decoded w x (words_le s) near) (branch-decoded (3 - w) (x + 1) other (inside s))))

  -- A BLOCK of `size` stages from stage t on, with `later` stages after it, whose trail fits the unit
  module _ (size unit shut_at most m t later : ℕ) (stage : ℕ → G) (rows : List ℕ) (picks : ℕ) (after : ℕ → ℕ)
      (quoted : (i : ℕ) → i < size → Quoted unit shut_at most rows (pick_at picks i) (quote (stage (t + i))))
      (told : (s : ℕ) → s < n → Trailed unit shut_at m 0 (after s) (cost_by (stages_from stage (t + size) later) s) 0)
      (room : size * most + m < shut_at) (fits : 2 ^ size ≤ unit) where
    -- the last k stages of the block, and those after it
    abbrev last : ℕ → List G
    last k = stages_from stage (t + (size - k)) (k + later)

    -- one stage more
    last_more : (k : ℕ) → suc k ≤ size → last (suc k) ≡ stage (t + (size - suc k)) ∷ last k
    unfolding stages_from
    last_more k h =
        let f : suc (t + (size - suc k)) ≡ t + (size - k) = omega arith in
        let z : suc k + later ≡ suc (k + later) = omega arith in
        rw (z, f)

    -- the prices of its row, marked
    row-marked : (r k : ℕ) (q : Prices) (row : Quoted unit shut_at most rows r q) (j : ℕ) → j ≤ 3
        → marked_of rows r k j ≡ unit * row.plain j + flag_of (one-if q.stay) j * 2 ^ k
    unfolding marked_of
    row-marked r k q row j h = ap₂ (λ (x l : ℕ). x + flag_of l j * 2 ^ k) (row.in_units j h) row.low

    -- THE BLOCK, its last k stages
    pub run-decoded : (k : ℕ) → k ≤ size → (s : ℕ) → s < n
        → Trailed unit shut_at (k * most + m) k (block_of size n words rows picks after k s) (cost_by (last k) s) (trail_by k (last k) s)
    unfolding block_of trail_of
    run-decoded zero h s l = let e : 0 * most + m ≡ m = omega arith in let f : 0 + later ≡ later = omega arith in
        let z : size - 0 ≡ size = omega arith in rw (e, f, z) (told s l)
    run-decoded (suc k) h s l =
        let i : ℕ = size - suc k in
        let r : ℕ = pick_at picks i in
        let row = quoted i (omega arith) in
        let b : suc k * most + m ≡ most + (k * most + m) = omega arith in
        let a : suc k * most ≤ size * most = mul-le-mul h (le_refl most) in
        let c : 2 ^ suc k ≤ 2 ^ size = pow_mono h in
        rw (b, last_more k h)
        (stage-decoded unit shut_at most (k * most + m) k (stage (t + i)) (last k) (marked_of rows r k) row.plain
        (block_of size n words rows picks after k) (row-marked r k _ row) row.tells (run-decoded k (omega arith)) (omega arith)
        (omega arith) s)
