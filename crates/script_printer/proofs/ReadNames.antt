-- A word of a script that is a name has the spelling of one, so a script that is read is printable.
use Rattle.std.proofs.Common.{◌≡◌, ℕ, zero, suc, ◌+◌, ◌-◌, Bool, true, false, not, ◌==◌, ◌&&◌, if◌then◌else◌, List, [], ◌∷◌, length, take}
use Rattle.std.proofs.Common.{refl, sym, ap, subst, arith}
use Rattle.std.specs.Prelude.{slice_index}
use Rattle.std.specs.Char.{is_ascii_digit}
use Rattle.std.specs.Str.{chars, encode_utf8_all}
use Rattle.std.proofs.Math.Utf8.{scalars}
use Rattle.std.proofs.lemmas.Str.{chars-encodes, scalars-chars}
use Rattle.std.proofs.lemmas.Bool.{and_parts}
use Rattle.text_tokens.specs.declared.kind.Kind.{Kind}
use Rattle.text_tokens.specs.declared.kind.Kind.TheVariants as k
use Rattle.text_tokens.specs.declared.kind.Language.TheVariants as language
use Rattle.text_tokens.specs.Kinds.{Text, keyword, symbol, symbol_len, symbol_of}
use Rattle.text_tokens.specs.Lex.{is_blank, begins_name, continues_name, name_len, digits_len, word}
use Rattle.text_tokens.specs.Names.{AreOfName, GoOn, IsName}
use Rattle.text_tokens.specs.Words.{Word, first_word, words_from, words_of}
use Rattle.schedule_script.specs.declared.tree.Script.{Script}
use Rattle.schedule_script.specs.Script.{ScriptText}
use Rattle.script_printer.specs.Printable.{IsPrintable}
use Rattle.script_printer.proofs.ReadIndices.{AreNamed}
use Rattle.script_printer.proofs.ReadScripts.{script-printable}

-- ---- symbols are no names

abbrev is_name : Kind → Bool
is_name k.Name = true
is_name kd = false

record IsOther (kd : Kind) : Type 0 where
  is : is_name kd ≡ false

either : (b : Bool) (x y : Kind) → IsOther x → IsOther y → IsOther (if b then x else y)
either true x y p q = p
either false x y p q = q

symbol_other : (c next : ℕ) → IsOther (symbol c next)
unfolding symbol
symbol_other c next =
    let o : (kd : Kind) → is_name kd ≡ false → IsOther kd = λ kd e. record { is = e } in
    either (c == 59) _ _ (o k.Semi refl)
    (either (c == 44) _ _ (o k.Comma refl)
    (either (c == 46) _ _ (either (next == 46) _ _ (o k.DotDot refl) (o k.Dot refl))
    (either (c == 91) _ _ (o k.LBracket refl)
    (either (c == 93) _ _ (o k.RBracket refl)
    (either (c == 40) _ _ (o k.LParen refl)
    (either (c == 41) _ _ (o k.RParen refl)
    (either (c == 123) _ _ (o k.LBrace refl)
    (either (c == 125) _ _ (o k.RBrace refl)
    (either (c == 58) _ _ (o k.Colon refl)
    (either (c == 60) _ _ (either (next == 61) _ _ (o k.LessEqual refl) (o k.Less refl))
    (either (c == 62) _ _ (either (next == 61) _ _ (o k.GreaterEqual refl) (o k.Greater refl))
    (either (c == 61) _ _ (either (next == 61) _ _ (o k.Equal refl) (o k.Assign refl))
    (either (c == 43) _ _ (o k.Plus refl)
    (either (c == 45) _ _ (o k.Minus refl)
    (either (c == 42) _ _ (o k.Star refl)
    (either (c == 47) _ _ (o k.Slash refl)
    (either (c == 37) _ _ (o k.Percent refl) (o k.Bad refl))))))))))))))))))

sign_no_name : (c next : ℕ) → symbol_of language.Script c next ≡ k.Name → ⊥
unfolding symbol_of
sign_no_name c next e = let n = (symbol_other c next).is in let f : is_name (symbol c next) ≡ true = ap is_name e in absurd (cc)

-- ---- one word

one_more : (n : ℕ) → suc n ≡ 1 + n
one_more n = omega arith

go_by : (c : ℕ) (z : Text) (b : Bool) → continues_name c ≡ b → GoOn (take (name_len z) z) → GoOn (take (if b then 1 + name_len z else 0) (c ∷ z))
go_by c z true e h = subst (λ (n : ℕ). GoOn (take n (c ∷ z))) (one_more (name_len z)) (e, h)
go_by c z false e h = tt

go_on : (z : Text) → GoOn (take (name_len z) z)
go_on [] = tt
go_on (c ∷ z) = go_by c z (continues_name c) refl (go_on z)

valid_front : (n : ℕ) (z : Text) → scalars z ≡ true → scalars (take n z) ≡ true
valid_front zero z h = refl
valid_front (suc n) [] h = refl
valid_front (suc n) (c ∷ z) h = let p = and_parts _ (scalars z) h in (λ j. p.0 j && valid_front n z p.1 j)

abbrev which : ℕ → Text → Bool → Bool → Kind × ℕ
which c z b d =
    if b then (keyword language.Script (encode_utf8_all (take (1 + name_len z) (c ∷ z))), 1 + name_len z)
    else (if d then (k.Number, 1 + digits_len z)
    else (symbol_of language.Script c (slice_index z 0), symbol_len (symbol_of language.Script c (slice_index z 0))))

name_word : (c : ℕ) (z : Text) → scalars (c ∷ z) ≡ true → (word language.Script (c ∷ z)).0 ≡ k.Name
    → IsName language.Script (encode_utf8_all (take (word language.Script (c ∷ z)).1 (c ∷ z)))
unfolding word
name_word c z h = by (begins_name c) (is_ascii_digit c) refl
  where
    by : (b d : Bool) → begins_name c ≡ b → (which c z b d).0 ≡ k.Name → IsName language.Script (encode_utf8_all (take (which c z b d).1 (c ∷ z)))
    by true d b e =
        let valid = valid_front (1 + name_len z) (c ∷ z) h in
        let spelled : AreOfName (take (1 + name_len z) (c ∷ z)) = subst (λ (n : ℕ). AreOfName (take n (c ∷ z))) (one_more (name_len z)) (b, go_on z) in
        record {
          utf8 = (take (1 + name_len z) (c ∷ z), (valid, refl));
          characters = subst AreOfName (sym (chars-encodes (take (1 + name_len z) (c ∷ z)) valid)) spelled;
          no_keyword = e;
        }
    by false true b e = absurd (cc)
    by false false b e = absurd (sign_no_name c (slice_index z 0) e)

-- ---- all words

one_of : (p q : Bool) (us vs ws : List Word) → AreNamed us → AreNamed vs → AreNamed ws → AreNamed (if p then us else (if q then vs else ws))
one_of true q us vs ws a b c = a
one_of false true us vs ws a b c = b
one_of false false us vs ws a b c = c

words_named : (z : Text) (end left : ℕ) (in_comment : Bool) → scalars z ≡ true → AreNamed (words_from language.Script end left in_comment z)
unfolding words_from first_word
words_named [] end left b h = tt
words_named (c ∷ z) end (suc left) b h = let p = and_parts _ (scalars z) h in words_named z end left b p.1
words_named (c ∷ z) end zero true h = let p = and_parts _ (scalars z) h in words_named z end zero (not (c == 10)) p.1
words_named (c ∷ z) end zero false h =
    let p = and_parts _ (scalars z) h in
    one_of (c == 35) (is_blank c) _ _ _ (words_named z end zero true p.1) (words_named z end zero false p.1)
    (name_word c z h, words_named z end ((word language.Script (c ∷ z)).1 - 1) false p.1)

-- a script of a text is printable
pub read-printable : (z : Text) (s : Script) → ScriptText z s → IsPrintable s
read-printable z s h = script-printable (words_of language.Script z) s (words_named (chars z) (length z) zero false (scalars-chars z h.0)) h.1
