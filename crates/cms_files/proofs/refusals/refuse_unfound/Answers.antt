use Rattle.std.proofs.Common.{refl}
use Rattle.cms_files.proofs.refusals.refuse_unfound.Goals as goal

pub returns-in-Memory : goal.returns-in-Memory
returns-in-Memory g c = record {
  starved = λ memory. (refl, refl);
  does = λ other. absurd (other c.in-Memory.is);
  went = λ other. absurd (other c.in-Memory.is);
}

pub returns-in_default : goal.returns-in_default
returns-in_default g c =
    let same = c.as_slice.ensures in
    record {
      starved = λ memory. absurd (c.in_default.not-Memory memory);
      does = λ other. rw same at c.refuse_search.ensures.does;
      went = λ other. c.refuse_search.ensures.went;
    }
