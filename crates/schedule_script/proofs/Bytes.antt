-- Bytes that are text, and bytes that are none.
use Rattle.std.proofs.Common.{◌≡◌, ℕ, Bool, true, false, cond, Result, Err, refl, sym, ap, subst, ◌∙◌}
use Rattle.std.specs.Str.{IsUtf8, is_utf8}
use Rattle.std.specs.Str.Lossy.{utf8_valid_len}
use Rattle.std.proofs.lemmas.Str.{IsUtf8-from_is_utf8, is_utf8-from_IsUtf8}
use Rattle.text_tokens.specs.Kinds.{Text}
use Rattle.schedule_script.specs.declared.tree.Script.{Script}
use Rattle.schedule_script.specs.declared.fault.ScriptFault.{ScriptFault}
use Rattle.schedule_script.specs.declared.fault.ScriptFault.TheVariants.{ScriptSyntax}
use Rattle.schedule_script.specs.Script.{read_text, read_bytes, Answers}

pub by_cases : (z : Text) (b : Bool) → is_utf8 z ≡ b → read_bytes z ≡ cond b (read_text z) (Err (ScriptSyntax (utf8_valid_len z)))
unfolding read_bytes
by_cases z b e = ap (λ (v : Bool). cond v (read_text z) (Err (ScriptSyntax (utf8_valid_len z)))) e

pub text_answers : (z t : Text) (r : Result Script ScriptFault) → (t ≡ z) × IsUtf8 z → Answers r (read_text t) → Answers r (read_bytes z)
text_answers z t r e h = subst (λ (o : Result Script ScriptFault). Answers r o) (ap read_text e.0 ∙ sym (by_cases z true (is_utf8-from_IsUtf8 z e.1))) h

no_text : (z : Text) → ¬ (IsUtf8 z) → is_utf8 z ≡ false
no_text z bad = go (is_utf8 z) refl
  where
    go : (b : Bool) → is_utf8 z ≡ b → is_utf8 z ≡ false
    go true e = absurd (bad (IsUtf8-from_is_utf8 z e))
    go false e = e

pub no_text_answer : (z : Text) (n : ℕ) → ¬ (IsUtf8 z) → n ≡ utf8_valid_len z → read_bytes z ≡ Err (ScriptSyntax n)
no_text_answer z n bad e = by_cases z false (no_text z bad) ∙ ap (λ (m : ℕ). Err (ScriptSyntax m)) (sym e)
