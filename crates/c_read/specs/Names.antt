-- How the numbers and names of C are read.
use Rattle.std.specs.Prelude.{ℕ, Bool, ◌^◌, ◌==◌, ◌&&◌, nat_lt, if◌then◌else◌, [], ◌∷◌, Result, Ok, Err, decimal}
use Rattle.std.specs.Str.{bytes_eq}
use Rattle.text_tokens.specs.Kinds.{Text}
use Rattle.text_tokens.specs.Numbers.{value_from}
use Rattle.reader_laws.specs.declared.fault.Fault.{Fault}
use Rattle.reader_laws.specs.declared.fault.Fault.TheVariants.{BadSyntax}
use Rattle.loop_lang.specs.declared.word.Buf.{Buf}
use Rattle.loop_lang.specs.declared.word.Buf.TheVariants.{Input, Output, Scratch}
use Rattle.c_text.specs.Expression.{Scope}

-- the digits are what is printed of their value, which is below the bound
abbrev pub is_numeral : ℕ → Text → Bool
is_numeral limit t = bytes_eq t (decimal (value_from 0 t)) && nat_lt (value_from 0 t) limit

abbrev pub numeral : ℕ → Text → Result ℕ Fault
numeral limit t = if is_numeral limit t then Ok (value_from 0 t) else Err BadSyntax

-- a letter and a number below the bound
abbrev pub numbered : ℕ → ℕ → Text → Result ℕ Fault
numbered letter limit [] = Err BadSyntax
numbered letter limit (c ∷ t) = if c == letter then numeral limit t else Err BadSyntax

-- n0, n1, ..
abbrev pub size_number : Scope → Text → Result ℕ Fault
size_number scope = numbered 110 scope.sizes

-- i0, i1, ..
abbrev pub loop_number : Scope → Text → Result ℕ Fault
loop_number scope = numbered 105 scope.loops

-- a buffer by its number
abbrev pub with_number : (ℕ → Buf) → Result ℕ Fault → Result Buf Fault
with_number make (Ok n) = Ok (make n)
with_number make (Err fault) = Err fault

-- b0, b1, .., s0, s1, ..
abbrev pub target : Scope → Text → Result Buf Fault
target scope [] = Err BadSyntax
target scope (c ∷ t) =
    if c == 98 then with_number Output (numeral scope.outputs t)
    else (if c == 115 then with_number Scratch (numeral scope.scratch t) else Err BadSyntax)

-- a0, a1, .., b0, b1, .., s0, s1, ..
abbrev pub buffer : Scope → Text → Result Buf Fault
buffer scope [] = Err BadSyntax
buffer scope (c ∷ t) = if c == 97 then with_number Input (numeral scope.inputs t) else target scope (c ∷ t)
