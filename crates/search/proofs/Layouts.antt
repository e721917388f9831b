-- The write of a strip in a layout: the search solves it, and its words read as the data just where the paper's sums give the data.
--   rewrite-marks                   the write of a strip depends on the marks of its own cells alone
--   words-code                      the bits of a stage's word are the code bits that its levels show
--   could-rewrite, rewrite-could    what could be, in the paper's words, is what the search looks for
--   strip-solves, strip-width       the write of a strip is the best of what could be, and as wide as the strip has cells
--   one_bit-parity, one_bit-sound   one bit a cell: a cell's bit is its level's parity
--   one_bit-write                   and each cell is kept or raised by one, with room in the states for more digits
use mathlib.Core.Path.{◌≡◌, refl, sym, ◌∙◌, ap}
use mathlib.Core.Bool.{Bool, false}
use mathlib.Core.List.{List, [], ◌∷◌, map}
use mathlib.Core.Logic.{◌↔◌}
use Prim.Native.Nat.{ℕ, suc, ◌<◌, ◌≤◌, ◌+◌, ◌*◌, ◌%◌}
use native.Mathlib.Omega.{arith}
use native.Mathlib.Nat.{mul_comm}
use lib.ListN.{length, get_or, take, drop, length-drop, length-map, get_or-map}
use lib.Seq.{get_or-take, get_or-drop, length-take-le}
use Rattle.cells.specs.Places.{list_of, Each, no_more, and_each}
use Rattle.cells.specs.Levels.{level}
use Rattle.cells.proofs.Places.{list_of-same, list_of-get_or}
use Rattle.cells.proofs.Parts.{within}
use Rattle.codes.specs.Generators.{Generators, digit}
use Rattle.codes.specs.Layouts.{Layout, one_bit, stage_count, cell_count}
use Rattle.codes.specs.Reading.{code_bit, data_bit}
use Rattle.codes.specs.Sequences.{odd}
use Rattle.codes.specs.Encoders.{InMemory, encoder_of}
use Rattle.codes.specs.Coset.{column, Reads}
use Rattle.codes.proofs.Sequences.{odd-mod-two}
use Rattle.codes.proofs.Encoders.{encoder-in-memory, reads-sums}
use Rattle.search.specs.Best.{Solves, Width}
use Rattle.search.specs.Strip.{Steps, Dear, Cell, cells_of, steps_of, words, Rewrite}
use Rattle.search.specs.Search.{Choice, with_memory, write}
use Rattle.search.specs.Levels.{level_at, CouldBe, pays}
use Rattle.search.specs.Choices.{choice_of}
use Rattle.search.specs.Parity.{parity, parity-choice}
use Rattle.search.specs.Layouts.{meaning_of, data_bits, strip_cells, rewrite_of, Sound}
use Rattle.search.proofs.Strip.{raised-length, full-length}
use Rattle.search.proofs.Levels.{length-cells, raised-rises, rises-raised, words-at}
use Rattle.search.proofs.Choices.{choice-chooses}
use Rattle.search.proofs.Search.{write-solves, room-same}
use Rattle.search.proofs.Parity.{parity-chosen}

-- MARKS. The write of a strip depends on the marks of its own cells alone
pub rewrite-marks : (lay : Layout) (G : Generators) (W : List ℕ) (L : ℕ) (strip : List ℕ) (a b : ℕ → Bool) (content : List ℕ)
    → ((c : ℕ) → c < cell_count lay L → a c ≡ b c) → rewrite_of lay G W L strip a content ≡ rewrite_of lay G W L strip b content
unfolding rewrite_of strip_cells cells_of
rewrite-marks lay G W L strip a b content e =
    ap
    (write (encoder_of G) (data_bits lay content) (choice_of (steps_of W) (meaning_of lay)) lay.cells (stage_count lay L))
    (list_of-same (cell_count lay L) _ _ (λ c h. ap (λ (m : Bool). record { level = level strip c; mark = m }) (e c h)))

-- CODE BITS. The cells of stage t of n
stage-levels : (k n : ℕ) (y : List ℕ) → length y ≡ k * n → (t : ℕ) → t < n → take k (drop (t * k) y) ≡ list_of k (λ i. level_at y (k * t + i))
unfolding level_at
stage-levels k n y e t h =
    let c : t * k ≡ k * t = mul_comm t k in
    rw c
    (sym (list_of-get_or k (take k (drop (k * t) y)) 0
    (length-take-le k (drop (k * t) y) (omega (arith, length-drop (k * t) y, within k t n h))))
    ∙ list_of-same k _ _ (λ i l. get_or-take k (drop (k * t) y) i 0 l ∙ get_or-drop (k * t) y i 0))

-- bit j of the word of stage t
words-code : (lay : Layout) (n : ℕ) (y : List ℕ) → length y ≡ lay.cells * n → (j t : ℕ) → t < n
    → column j (words (meaning_of lay) n y) t ≡ odd (code_bit lay (level_at y) j t)
unfolding column meaning_of code_bit odd
words-code lay n y e j t h =
    ap (λ (w : List Bool). get_or w j false) (words-at (meaning_of lay) n y t h
    ∙ ap (λ (l : List ℕ). map odd (lay.shows l)) (stage-levels lay.cells n y e t h))
    ∙ get_or-map odd (lay.shows (list_of lay.cells (λ i. level_at y (lay.cells * t + i)))) j 0

-- WHAT COULD BE is what the search looks for
module _ (S : Steps) (lay : Layout) (G : Generators) (Z : Sound lay G) (n : ℕ) (d : ℕ → ℕ) (bits : (b : ℕ) → d b < 2) (old : List Cell)
    (size : length old ≡ lay.cells * n) where
  levels-read : (y : List ℕ) → length y ≡ length old
      → Reads (encoder_of G) (λ j t. odd (d (lay.bits * t + j))) n (words (meaning_of lay) n y) ↔ ((b : ℕ) → b < lay.bits * n
      → data_bit lay G (level_at y) b ≡ d b)
  levels-read y e =
      reads-sums lay G Z.leads Z.generators n (words (meaning_of lay) n y) (level_at y) d bits
      (λ j h. record { at = λ t l. words-code lay n y (e ∙ size) j t l })

  -- what could be is a write, at what it pays
  pub could-rewrite : (y : List ℕ) → CouldBe S lay G n d old y
      → Rewrite S (meaning_of lay) (encoder_of G) (λ j t. odd (d (lay.bits * t + j))) n old (pays S old y) y
  could-rewrite y p = record { raised = rises-raised S old y p.size p.rises; reads = (levels-read y p.size).1 p.reads }

  -- and a write could be
  pub rewrite-could : (c : ℕ) (y : List ℕ) → Rewrite S (meaning_of lay) (encoder_of G) (λ j t. odd (d (lay.bits * t + j))) n old c y
      → CouldBe S lay G n d old y
  rewrite-could c y w = record {
    size = raised-length w.raised;
    rises = raised-rises S w.raised;
    reads = (levels-read y (raised-length w.raised)).0 w.reads;
  }

-- the words of a stage have a bit for each generator
sized : (lay : Layout) (G : Generators) → Sound lay G → (y : List ℕ) → length y ≡ (meaning_of lay).cells
    → length ((meaning_of lay).means y) ≡ suc (length (encoder_of G).others)
unfolding meaning_of encoder_of
sized lay G Z y e = length-map (lay.shows y) odd ∙ Z.shown y e ∙ ap suc (sym (length-map G.others _ ∙ Z.generators))

-- more memory than a code needs is room enough
room : (G : Generators) (m : ℕ) → G.memory ≤ m → InMemory (with_memory m (encoder_of G))
unfolding encoder_of
room G m h =
    record { first_fits = omega (arith, (encoder-in-memory G).first_fits); others_fit = each_more (encoder-in-memory G).others_fit }
  where
    memory_is : (encoder_of G).memory ≡ G.memory
    memory_is = refl

    each_more : {Gs : List (List Bool)} → Each (λ g. length g ≤ suc (encoder_of G).memory) Gs → Each (λ g. length g ≤ suc m) Gs
    each_more no_more = no_more
    each_more (and_each {g = g} k ks) = let e : (encoder_of G).memory ≡ G.memory = memory_is in let l : length g ≤ suc m = omega arith in
        and_each l (each_more ks)

-- THE STRIP
module _ (lay : Layout) (L : ℕ) (strip : List ℕ) (marks : ℕ → Bool) where
  -- its cells
  pub length-strip : length (strip_cells lay L strip marks) ≡ cell_count lay L
  unfolding strip_cells
  length-strip = length-cells (cell_count lay L) (level strip) marks

  module _ (G : Generators) (Z : Sound lay G) (W content : List ℕ) where
    -- the search solves it
    pub strip-solves : Solves
        (Rewrite (steps_of W) (meaning_of lay) (encoder_of G) (data_bits lay content) (stage_count lay L) (strip_cells lay L strip marks))
        (rewrite_of lay G W L strip marks content)
    unfolding rewrite_of cell_count meaning_of
    strip-solves =
        write-solves (encoder_of G) (encoder-in-memory G) (data_bits lay content) (steps_of W) (meaning_of lay)
        (choice_of (steps_of W) (meaning_of lay))
        (choice-chooses (steps_of W) (meaning_of lay) _ (sized lay G Z)) (stage_count lay L) (strip_cells lay L strip marks)
        (full-length lay.cells (stage_count lay L) (strip_cells lay L strip marks) (length-strip
        ∙ mul_comm lay.cells (stage_count lay L)))

    -- and every write of it has a level for each cell
    pub strip-width : Width (cell_count lay L)
        (Rewrite (steps_of W) (meaning_of lay) (encoder_of G) (data_bits lay content) (stage_count lay L) (strip_cells lay L strip marks))
    strip-width = record { width = λ c y w. raised-length w.raised ∙ length-strip }

-- ONE BIT A CELL. The bits that levels show are their parities
map-odd : (y : List ℕ) → map odd (map (λ l. l % 2) y) ≡ map odd y
map-odd [] = refl
map-odd (l ∷ y) = rw (odd-mod-two l, map-odd y)

pub one_bit-parity : meaning_of one_bit ≡ parity 2
unfolding meaning_of
one_bit-parity = λ i. record { cells = 2; means = λ y. map-odd y i }

-- a code of two generators whose G1 begins with 1 goes with it
pub one_bit-sound : (G : Generators) → digit G.memory G.g1 0 ≡ 1 → length G.others ≡ 1 → Sound one_bit G
one_bit-sound G e f = record { leads = e; generators = f; shown = λ y h. length-map y (λ l. l % 2) ∙ h }

-- THE WRITE with one bit a cell, where no step is free: each cell is kept or raised by one, and states may have room for more digits
pub one_bit-write : (m : ℕ) (G : Generators) → Sound one_bit G → G.memory ≤ m → (W : List ℕ) → Dear (steps_of W)
    → (L : ℕ) (strip : List ℕ) (marks : ℕ → Bool) (content : List ℕ)
    → write (with_memory m (encoder_of G)) (data_bits one_bit content) (parity-choice (steps_of W)) 2 (stage_count one_bit L)
    (strip_cells one_bit L strip marks)
    ≡ rewrite_of one_bit G W L strip marks content
unfolding rewrite_of cell_count meaning_of
one_bit-write m G Z h W D L strip marks content =
    ap (λ (c : Choice). write (with_memory m (encoder_of G)) (data_bits one_bit content) c 2 (stage_count one_bit L)
    (strip_cells one_bit L strip marks))
    (sym (ap (choice_of (steps_of W)) one_bit-parity ∙ parity-chosen (steps_of W) D 2))
    ∙ room-same (encoder_of G) m (encoder-in-memory G) (room G m h) (data_bits one_bit content) (steps_of W) (meaning_of one_bit)
    (choice_of (steps_of W) (meaning_of one_bit))
    (choice-chooses (steps_of W) (meaning_of one_bit) _ (sized one_bit G Z)) (stage_count one_bit L) (strip_cells one_bit L strip marks)
    (full-length 2 (stage_count one_bit L) (strip_cells one_bit L strip marks) (length-strip one_bit L strip marks
    ∙ mul_comm 2 (stage_count one_bit L)))
