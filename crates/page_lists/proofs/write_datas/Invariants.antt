-- The invariant: the course of the first k datas has not ended; it is the page as it is and the answer so far.
use mathlib.Core.Path.{◌≡◌}
use Prim.Native.Nat.{◌≤◌, ◌*◌}
use Rattle.cells.specs.Marks.{marks_in}
use Rattle.codes.specs.Codes.{generators_of}
use Rattle.page_promises.specs.Lists.{job_course}
use Rattle.page_answers.specs.declared.End.TheVariants as E
use Rattle.page_lists.proofs.write_datas.Given as goal

abbrev pub invariant-loop-k : goal.invariant-loop-k
invariant-loop-k l =
    (job_course (marks_in l.map) (generators_of l.code) l.weights l.bytes l.strips l.k l.initial.page l.data ≡ record { page = l.page; answer = l.so_far })
    × (l.so_far.end ≡ E.Done)
    × (l.so_far.written ≤ l.k)
    × (l.so_far.cost ≤ 33554432 * l.k)
