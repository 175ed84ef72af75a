use Rattle.std.proofs.Common.{ℕ, List, Result, Ok, Err, cond, is_ok, OnErr, ◌≡◌, ◌++◌, OnOk, sym, subst}
use Rattle.mini_forms.specs.Output.{one_written}
use Rattle.mini_forms.specs.declared.form.Form.{Form}
use Rattle.mini_forms.proofs.output.write_record.Goals as goal

extended : {T E : Type 0} (r : Result T E) (new old other : List ℕ) → new ≡ cond (is_ok r) (old ++ other) old → OnOk r (new ≡ old ++ other)
extended (Ok x) new old other is = is
extended (Err e) new old other is = tt

stayed : {T E : Type 0} (r : Result T E) (new old other : List ℕ) → new ≡ cond (is_ok r) (old ++ other) old → OnErr r (new ≡ old)
stayed (Ok x) new old other is = tt
stayed (Err e) new old other is = is

pub write_line-requires : goal.write_line-requires
write_line-requires c = c.requires.short

pub returns-in-Text-clause-ok : goal.returns-in-Text-clause-ok
returns-in-Text-clause-ok c =
    subst (λ (f : Form). OnOk c.write_line.result (c.write_line.new.into.items ≡ c.args.into.now.items ++ one_written f c.args.format c.args.bytes.now)) (sym c.in-Text.is) c.write_line.ensures.ok

pub returns-in-Text-clause-err : goal.returns-in-Text-clause-err
returns-in-Text-clause-err c = c.write_line.ensures.err

pub returns-in-Binary-clause-ok : goal.returns-in-Binary-clause-ok
returns-in-Binary-clause-ok c =
    subst (λ (f : Form). OnOk c.extend_from_slice.result (c.extend_from_slice.new.self.items ≡ c.args.into.now.items ++ one_written f c.args.format c.args.bytes.now)) (sym c.in-Binary.is)
    (extended c.extend_from_slice.result c.extend_from_slice.new.self.items c.args.into.now.items c.args.bytes.now c.extend_from_slice.ensures.items)

pub returns-in-Binary-clause-err : goal.returns-in-Binary-clause-err
returns-in-Binary-clause-err c = stayed c.extend_from_slice.result c.extend_from_slice.new.self.items c.args.into.now.items c.args.bytes.now c.extend_from_slice.ensures.items
