-- The function words.
use Rattle.std.specs.Prelude.{ℕ, List, [], ◌∷◌, codes, Option, find}
use Rattle.cms_text.specs.Texts.{Text, is_keyword}
use Rattle.exec2_funcs.specs.declared.function.Function.{Function}
use Rattle.exec2_funcs.specs.declared.function.Function.TheVariants as function

-- all functions
abbrev pub functions : List Function
functions = function.Concat ∷ function.Datatype ∷ function.Div ∷ function.Mult ∷ function.Left ∷ function.Right ∷ function.Length
    ∷ function.Literal ∷ function.Location ∷ function.Piece ∷ function.Substr ∷ function.Position ∷ function.String ∷ function.Trans
    ∷ function.Trim ∷ function.Word ∷ []

-- the word of each, in ASCII
abbrev pub name_of : Function → List ℕ
name_of function.Concat = codes "&CONCAT"
name_of function.Datatype = codes "&DATATYPE"
name_of function.Div = codes "&DIV"
name_of function.Mult = codes "&MULT"
name_of function.Left = codes "&LEFT"
name_of function.Right = codes "&RIGHT"
name_of function.Length = codes "&LENGTH"
name_of function.Literal = codes "&LITERAL"
name_of function.Location = codes "&LOCATION"
name_of function.Piece = codes "&PIECE"
name_of function.Substr = codes "&SUBSTR"
name_of function.Position = codes "&POSITION"
name_of function.String = codes "&STRING"
name_of function.Trans = codes "&TRANS"
name_of function.Trim = codes "&TRIM"
name_of function.Word = codes "&WORD"

-- the function whose word this is, in capital or small letters
unfoldable pub function_of : Text → Option Function
function_of word = find (λ f. is_keyword (name_of f) word) functions
