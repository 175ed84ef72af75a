use Rattle.std.proofs.Common.{◌≡◌, ◌∙◌, ℕ, List, Option, sym, ap, subst}
use Rattle.std.specs.Prelude.{IsTrue}
use Rattle.cms_host.specs.FileBytes.{HasBytes}
use Rattle.cms_host.specs.HeldBytes.{HoldsTrue}
use Rattle.cms_host.specs.declared.read_ahead.ReadAhead.{ReadAhead}
use Rattle.cms_host.proofs.HeldBytes.{held_there}
use Rattle.cms_host.proofs.read_ahead.ReadAhead.read.Goals as goal
use Rattle.cms_host.proofs.read_ahead.ReadAhead.read.Goals.{then-take, else-take, then-read_more, else-read_more}

pub read_more-requires : goal.read_more-requires
read_more-requires g c = c.requires

pub read_alone-read-requires : goal.read_alone-read-requires
read_alone-read-requires g c =
    let files = g.S.System.files in
    let files_are : files c.if-take.system ≡ files c.args.system.now = elim c.if-take.branch [ then-take w ↦ ap files w.system-is | else-take w ↦ ap files w.system-is ∙ w.read_more.ensures.files ] in
    let holds : HoldsTrue (files c.args.system.now) c.if-take.self = elim c.if-take.branch [
      | then-take w ↦ subst (λ (ahead : ReadAhead). HoldsTrue (files c.args.system.now) ahead) (sym w.self-is) c.requires
      | else-take w ↦ subst (λ (ahead : ReadAhead). HoldsTrue (files c.args.system.now) ahead) (sym w.self-is) w.read_more.ensures.held
    ] in
    subst (λ (fs : ℕ → Option (List ℕ)). HoldsTrue fs c.if-take.self) (sym files_are) holds

pub invariant_of-self : goal.invariant_of-self
invariant_of-self g c = record { inside = c.if-read_more.self.inside }

pub returns-clause-told : goal.returns-clause-told
returns-clause-told g c =
    let told = g.S.System.told in
    let first : told c.if-take.system ≡ told c.args.system.now = elim c.if-take.branch [ then-take w ↦ ap told w.system-is | else-take w ↦ ap told w.system-is ∙ w.read_more.ensures.told ] in
    elim c.if-read_more.branch [ then-read_more w ↦ ap told w.system-is ∙ first | else-read_more w ↦ ap told w.system-is ∙ w.read_alone-read.ensures.told ∙ first ]

pub returns-clause-files : goal.returns-clause-files
returns-clause-files g c =
    let files = g.S.System.files in
    let first : files c.if-take.system ≡ files c.args.system.now = elim c.if-take.branch [ then-take w ↦ ap files w.system-is | else-take w ↦ ap files w.system-is ∙ w.read_more.ensures.files ] in
    elim c.if-read_more.branch [ then-read_more w ↦ ap files w.system-is ∙ first | else-read_more w ↦ ap files w.system-is ∙ w.read_alone-read.ensures.files ∙ first ]

pub returns-clause-held : goal.returns-clause-held
returns-clause-held g c =
    let files = g.S.System.files in
    let now = c.args.system.now in
    let first : files c.if-take.system ≡ files now = elim c.if-take.branch [ then-take w ↦ ap files w.system-is | else-take w ↦ ap files w.system-is ∙ w.read_more.ensures.files ] in
    let holds : HoldsTrue (files now) c.if-take.self = elim c.if-take.branch [
      | then-take w ↦ subst (λ (ahead : ReadAhead). HoldsTrue (files now) ahead) (sym w.self-is) c.requires
      | else-take w ↦ subst (λ (ahead : ReadAhead). HoldsTrue (files now) ahead) (sym w.self-is) w.read_more.ensures.held
    ] in
    elim c.if-read_more.branch [
      | then-read_more w ↦ subst (λ (ahead : ReadAhead). HoldsTrue (files now) ahead) (sym w.self-is) holds
      | else-read_more w ↦ subst (λ (ahead : ReadAhead). HoldsTrue (files now) ahead) (sym w.self-is) (subst (λ (fs : ℕ → Option (List ℕ)). HoldsTrue fs w.read_alone-read.new.self) first w.read_alone-read.ensures.held)
    ]

pub returns-clause-bytes : goal.returns-clause-bytes
returns-clause-bytes g c =
    let files = g.S.System.files in
    let now = c.args.system.now in
    let place = c.args.place in
    let first : files c.if-take.system ≡ files now = elim c.if-take.branch [ then-take w ↦ ap files w.system-is | else-take w ↦ ap files w.system-is ∙ w.read_more.ensures.files ] in
    let read : IsTrue c.if-take.value → HasBytes (files now place.file) place.byte c.if-take.into = elim c.if-take.branch [
      | then-take w ↦ λ is. subst (λ (bytes : List ℕ). HasBytes (files now place.file) place.byte bytes) (sym w.into-is) (held_there (files now) c.args.self.now place c.take.new.into c.requires (c.take.ensures w.if-take.true))
      | else-take w ↦ λ is. subst (λ (bytes : List ℕ). HasBytes (files now place.file) place.byte bytes) (sym w.into-is) (w.read_more.ensures.bytes (sym w.value-is ∙ is))
    ] in
    elim c.if-read_more.branch [
      | then-read_more w ↦ λ is. subst (λ (bytes : List ℕ). HasBytes (files now place.file) place.byte bytes) (sym w.into-is) (read w.if-read_more.true)
      | else-read_more w ↦ λ is. subst (λ (bytes : List ℕ). HasBytes (files now place.file) place.byte bytes) (sym w.into-is)
          (subst (λ (fs : ℕ → Option (List ℕ)). HasBytes (fs place.file) place.byte w.read_alone-read.new.into) first (w.read_alone-read.ensures.bytes (sym w.read-is ∙ is)))
    ]
