use Rattle.std.proofs.Common.{◌≡◌, ◌∙◌, inl, inr, refl, ap, sym, arith}
use Rattle.cms_records.specs.Pieces.{RecordState}
use Rattle.cms_names.specs.declared.name.Format.TheVariants.{F, V}
use Rattle.cms_execio.proofs.start.pass_front.Goals as goal

pub skip-requires-clause-unread : goal.skip-requires-clause-unread
skip-requires-clause-unread c = c.requires.unread c.in-F.is

pub returns-in-F-clause-past : goal.returns-in-F-clause-past
returns-in-F-clause-past c =
    let skipped = c.skip.ensures in
    let left = skipped.left in
    record {
      some = inr (c.args.cursor.now.begun.longest, ap (λ (b : RecordState). b.fixed) (c.requires.unread c.in-F.is).begun);
      left = omega arith;
      rest = skipped.records;
      file = skipped.file;
    }

pub returns-in-V-clause-past : goal.returns-in-V-clause-past
returns-in-V-clause-past c = record {
  some = inl (refl, refl);
  left = omega arith;
  rest = λ image records has. has;
  file = record { unit = refl; total = refl; bsize = refl; leaves = refl; fixed = refl; longest = refl };
}

pub returns-in-F-clause-blocks : goal.returns-in-F-clause-blocks
returns-in-F-clause-blocks c = λ is. c.skip.ensures.block

pub returns-in-V-clause-blocks : goal.returns-in-V-clause-blocks
returns-in-V-clause-blocks c = λ is. let e : F ≡ V = sym is ∙ c.in-V.is in absurd (cc e)
