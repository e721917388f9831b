-- What is handed on is the rest of the bytes: the step takes the first of these.
use Rattle.std.proofs.Common.{◌≡◌, ℕ, ◌+◌, ◌-◌, ◌≤◌, List, length, take, drop, arith, sym, ◌∙◌, ap}
use Rattle.std.proofs.lemmas.List.{take_all, length-take, length-drop, drop-drop}
use Rattle.script.proofs.Positions.{leads-more}
use Rattle.run.proofs.hand_on.Goals as goal

-- the rest of the bytes after n more are taken
module _ (bytes rest : List ℕ) (n : ℕ) (within : length rest ≤ length bytes) (others : rest ≡ drop (length bytes - length rest) bytes)
    (most : n ≤ length rest) where
  next : List ℕ
  next = take (length rest - n) (drop n rest)

  next-size : length next ≡ length rest - n
  unfolding next
  next-size = simp (length-take, length-drop) (omega arith)

  next-from : length bytes - length next ≡ length bytes - length rest + n
  next-from = let l = next-size in omega arith

  next-rest : next ≡ drop (length bytes - length next) bytes
  unfolding next
  next-rest =
      take_all (length rest - n) (drop n rest) (omega (arith, length-drop n rest)) ∙ ap (drop n) others ∙ drop-drop n (length bytes - length rest) bytes
      ∙ ap (λ (m : ℕ). drop m bytes) (sym next-from)

pub loop-rest-preserved : goal.loop-rest-preserved
unfolding next
loop-rest-preserved c =
    let s = c.take_bytes-printed.ensures.stepped in
    let i = c.loop-rest.invariant in
    let bytes = c.args.bytes.now in
    let rest = c.loop-rest.rest.now in
    let taken = c.take_bytes-printed.result.taken in
    let size = next-size bytes rest taken i.within i.others s.taken_most in
    record {
      within = omega arith;
      others = next-rest bytes rest taken i.within i.others s.taken_most;
      ready = c.take_bytes-printed.ensures.ready;
      leads = rw (next-from bytes rest taken i.within i.others s.taken_most) (leads-more bytes (length bytes - length rest) taken i.leads (rw i.others at s.takes));
    }
