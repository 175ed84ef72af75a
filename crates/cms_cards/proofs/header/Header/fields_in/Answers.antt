use Rattle.std.proofs.Common.{◌≡◌, ◌∙◌, ℕ, List, Some, None, refl, sym}
use Rattle.cms_text.specs.Bytes.{byte}
use Rattle.cms_names.specs.Modes.{mode_number_of}
use Rattle.cms_names.specs.declared.name.Name.{Name}
use Rattle.cms_names.specs.declared.name.Format.{Format}
use Rattle.cms_cards.specs.Headers.{fields_in, name_in, format_of, header_stamp}
use Rattle.cms_cards.proofs.header.Header.fields_in.Goals as goal

no_name : (text : List ℕ) → None ≡ name_in text → None ≡ fields_in text
unfolding fields_in
no_name text h = rw (sym h) refl

no_number : (text : List ℕ) (name : Name) → Some name ≡ name_in text → None ≡ mode_number_of (byte text 16) → None ≡ fields_in text
unfolding fields_in
no_number text name h m = rw (sym h, sym m) refl

no_format : (text : List ℕ) (name : Name) (number : ℕ) → Some name ≡ name_in text → Some number ≡ mode_number_of (byte text 16) → None ≡ format_of (byte text 17) → None ≡ fields_in text
unfolding fields_in
no_format text name number h m f = rw (sym h, sym m, sym f) refl

no_stamp : (text : List ℕ) (name : Name) (number : ℕ) (format : Format) → Some name ≡ name_in text → Some number ≡ mode_number_of (byte text 16) → Some format ≡ format_of (byte text 17)
    → None ≡ header_stamp text → None ≡ fields_in text
unfolding fields_in
no_stamp text name number format h m f s = rw (sym h, sym m, sym f, sym s) refl

pub returns-in_err-name_in : goal.returns-in_err-name_in
returns-in_err-name_in c = c.from_residual.ensures ∙ no_name c.args.text.now c.in_err-name_in.ensures

pub returns-in_err-mode_number_of : goal.returns-in_err-mode_number_of
returns-in_err-mode_number_of c = c.from_residual-in_err-mode_number_of.ensures ∙ no_number c.args.text.now c.in_ok-name_in.field-0 c.in_ok-name_in.ensures c.in_err-mode_number_of.ensures

pub returns-in_err-format_of : goal.returns-in_err-format_of
returns-in_err-format_of c = c.from_residual-in_err-format_of.ensures ∙ no_format c.args.text.now c.in_ok-name_in.field-0 c.in_ok-mode_number_of.field-0 c.in_ok-name_in.ensures c.in_ok-mode_number_of.ensures c.in_err-format_of.ensures

pub returns-in_err-stamp_in : goal.returns-in_err-stamp_in
returns-in_err-stamp_in c = c.from_residual-in_err-stamp_in.ensures ∙ no_stamp c.args.text.now c.in_ok-name_in.field-0 c.in_ok-mode_number_of.field-0 c.in_ok-format_of.field-0 c.in_ok-name_in.ensures c.in_ok-mode_number_of.ensures c.in_ok-format_of.ensures c.in_err-stamp_in.ensures
