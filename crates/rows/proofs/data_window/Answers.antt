-- The window of a byte is that of its eight bits.
use Prim.Native.Nat.{◌+◌, ◌*◌}
use native.Mathlib.Omega.{arith}
use Rattle.cells.specs.Bytes.{bit_of}
use Rattle.codes.proofs.Taps.{window-less}
use Rattle.rows.proofs.Labels.{byte-window}
use Rattle.rows.proofs.data_window.Goals as goal

pub returns : goal.returns
returns c =
    let e = byte-window c.args.data.now c.args.q c.window.ensures in
    (e, omega (arith, e, window-less 8 (bit_of c.args.data.now) (8 * (c.args.q + 1))))
