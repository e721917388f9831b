use mathlib.Core.Path.{refl, ◌∙◌}
use Prim.Native.Nat.{◌*◌, ◌<◌}
use native.Mathlib.Omega.{arith}
use lib.Seq.{length-take-le}
use borrow.Author.Rules.{rules}
use Rattle.turns.proofs.Held.{write-told, write-holds, names-told, values-told, data-told}
use Rattle.turns.proofs.line_turn.Goals as goal

pub returns-in-1 : goal.returns-in-1
returns-in-1 c =
    let t = names-told c.args.number c.args.values c.args.line.now c.args.page.now c.requires.holds (omega arith) c.names_turn.ensures in
    record {
      told = t.0;
      holds = t.1;
      free = record { size = refl };
    }

pub returns-in-2 : goal.returns-in-2
returns-in-2 c =
    let t = values-told c.args.number c.args.values c.args.line.now c.args.page.now c.requires.holds (omega arith) c.values_turn.ensures in
    record {
      told = t.0;
      holds = t.1;
      free = record { size = refl };
    }

pub returns-in-3 : goal.returns-in-3
returns-in-3 c =
    let t = data-told c.args.number c.args.values c.args.line.now c.args.page.now c.requires.holds (omega arith) c.data_turn.ensures in
    record {
      told = t.0;
      holds = t.1;
      free = record { size = refl };
    }

pub returns-in_default : goal.returns-in_default
returns-in_default c =
    let late : 3 < c.args.number = omega arith in
    let m = length-take-le c.size-n.result c.args.data.now (omega arith) in
    let l = c.write_turn.auto.page ∙ length-take-le (6 * c.size-n.result) c.args.page.now (omega arith) in
    record {
      told = write-told c.args.number _ c.args.values c.args.line.now c.args.page.now late c.size-n.ensures.1 m c.write_turn.ensures.told_page;
      holds = write-holds c.args.number _ c.args.values c.args.line.now c.args.page.now late c.size-n.ensures.1 m c.write_turn.ensures.told_page c.requires.holds l;
      free = record { size = (search rules) };
    }
