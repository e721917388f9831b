-- What is followed is the plan.
use Rattle.trellis.proofs.Ways.{suits}
use Rattle.trellis.proofs.Plans.{followed-plans}
use Rattle.trellis.proofs.forward.plan_strip.Goals as goal

pub returns : goal.returns
returns c =
    record {
      by_index = c.decide-r.ensures.by_index;
      free = c.follow.ensures.free;
      by_index_2 = λ W P. followed-plans (suits c.args.code W P.weights) P.dear (c.decide-r.ensures.by_index_2 W P) c.decide-r.ensures.lows (rw c.requires.digits_len at c.follow.ensures.by_index);
    }
