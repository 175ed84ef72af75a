use Rattle.std.proofs.Common.{◌∙◌, sym, ap, subst}
use Rattle.std.proofs.lemmas.Bool.{false≢true}
use Rattle.cms_host.specs.HeldBytes.{HoldsTrue}
use Rattle.cms_host.specs.declared.read_ahead.ReadAhead.{ReadAhead}
use Rattle.cms_host.proofs.HeldBytes.{held_there}
use Rattle.cms_host.proofs.read_ahead.ReadAhead.read_more.Goals as goal
use Rattle.cms_host.proofs.read_ahead.ReadAhead.read_more.Goals.{then-count-into, else-count-into}

pub fill-requires : goal.fill-requires
fill-requires g c = c.requires

pub returns-then-fill-clause-told : goal.returns-then-fill-clause-told
returns-then-fill-clause-told g c =
    let told = g.S.System.told in
    elim c.if-count-into.branch [ then-count-into w ↦ ap told w.system-is ∙ w.fill.ensures.told | else-count-into w ↦ ap told w.system-is ]

pub returns-else-fill-clause-told : goal.returns-else-fill-clause-told
returns-else-fill-clause-told g c =
    let told = g.S.System.told in
    elim c.if-count-into.branch [ then-count-into w ↦ ap told w.system-is ∙ w.fill.ensures.told | else-count-into w ↦ ap told w.system-is ]

pub returns-then-fill-clause-files : goal.returns-then-fill-clause-files
returns-then-fill-clause-files g c =
    let files = g.S.System.files in
    elim c.if-count-into.branch [ then-count-into w ↦ ap files w.system-is ∙ w.fill.ensures.files | else-count-into w ↦ ap files w.system-is ]

pub returns-else-fill-clause-files : goal.returns-else-fill-clause-files
returns-else-fill-clause-files g c =
    let files = g.S.System.files in
    elim c.if-count-into.branch [ then-count-into w ↦ ap files w.system-is ∙ w.fill.ensures.files | else-count-into w ↦ ap files w.system-is ]

pub returns-then-fill-clause-held : goal.returns-then-fill-clause-held
returns-then-fill-clause-held g c =
    let files = g.S.System.files in
    elim c.if-count-into.branch [
      | then-count-into w ↦ subst (λ (ahead : ReadAhead). HoldsTrue (files c.args.system.now) ahead) (sym w.self-is) w.fill.ensures.held
      | else-count-into w ↦ subst (λ (ahead : ReadAhead). HoldsTrue (files c.args.system.now) ahead) (sym w.self-is) c.requires
    ]

pub returns-else-fill-clause-held : goal.returns-else-fill-clause-held
returns-else-fill-clause-held g c =
    let files = g.S.System.files in
    elim c.if-count-into.branch [
      | then-count-into w ↦ subst (λ (ahead : ReadAhead). HoldsTrue (files c.args.system.now) ahead) (sym w.self-is) w.fill.ensures.held
      | else-count-into w ↦ subst (λ (ahead : ReadAhead). HoldsTrue (files c.args.system.now) ahead) (sym w.self-is) c.requires
    ]

pub returns-then-fill-clause-bytes : goal.returns-then-fill-clause-bytes
returns-then-fill-clause-bytes g c =
    let files = g.S.System.files in
    let holds : HoldsTrue (files c.args.system.now) c.if-count-into.self = elim c.if-count-into.branch [
      | then-count-into w ↦ subst (λ (ahead : ReadAhead). HoldsTrue (files c.args.system.now) ahead) (sym w.self-is) w.fill.ensures.held
      | else-count-into w ↦ subst (λ (ahead : ReadAhead). HoldsTrue (files c.args.system.now) ahead) (sym w.self-is) c.requires
    ] in
    λ is. held_there (files c.args.system.now) c.if-count-into.self c.args.place c.take.new.into holds (c.take.ensures is)

pub returns-else-fill-clause-bytes : goal.returns-else-fill-clause-bytes
returns-else-fill-clause-bytes g c = λ is. absurd (false≢true (sym c.if-fill.false ∙ is))
