-- The invariant: i bits are in the window, which is below 2 ^ i.
use mathlib.Core.Path.{◌≡◌}
use Prim.Native.Nat.{◌<◌, ◌*◌, ◌/◌, ◌%◌, ◌^◌}
use Rattle.codes.specs.Taps.{window_of}
use Rattle.codes.proofs.blocks.window.Given as goal

abbrev pub invariant-loop-i : goal.invariant-loop-i
invariant-loop-i l = (l.w ≡ window_of 8 (λ i'. l.word / 2 ^ (l.step * i') % 2) l.i) × (l.w < 2 ^ l.i)
