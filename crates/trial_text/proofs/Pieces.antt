-- Pieces that are written one after the other.
use Rattle.std.proofs.Common.{◌≡◌, ◌∙◌, ◌++◌, Result, Ok, Err, OnOk, append_assoc, ap}
use Rattle.text_tokens.specs.Kinds.{Text}

-- a consequence where all went well
pub on-ok : {A E : Type 0} {P Q : Type 0} → (r : Result A E) → (P → Q) → OnOk r P → OnOk r Q
on-ok (Ok a) f h = f h
on-ok (Err e) f h = tt

pub two : (old a b x y : Text) → x ≡ old ++ a → y ≡ x ++ b → y ≡ old ++ (a ++ b)
two old a b x y p q = q ∙ ap (λ (t : Text). t ++ b) p ∙ append_assoc old a b

pub three : (old a b c x y z : Text) → x ≡ old ++ a → y ≡ x ++ b → z ≡ y ++ c → z ≡ old ++ ((a ++ b) ++ c)
three old a b c x y z p q r = two old (a ++ b) c y z (two old a b x y p q) r

pub five : (old a b c d e x y z u v : Text) → x ≡ old ++ a → y ≡ x ++ b → z ≡ y ++ c → u ≡ z ++ d → v ≡ u ++ e
    → v ≡ old ++ ((((a ++ b) ++ c) ++ d) ++ e)
five old a b c d e x y z u v p q r s t =
    let abc = (a ++ b) ++ c in
    three old abc d e z u v (three old a b c x y z p q r) s t

pub seven : (old a b c d e f g x y z u v w r : Text) → x ≡ old ++ a → y ≡ x ++ b → z ≡ y ++ c → u ≡ z ++ d → v ≡ u ++ e → w ≡ v ++ f → r ≡ w ++ g
    → r ≡ old ++ ((((((a ++ b) ++ c) ++ d) ++ e) ++ f) ++ g)
seven old a b c d e f g x y z u v w r h i j k l m n =
    let first = (((a ++ b) ++ c) ++ d) ++ e in
    three old first f g v w r (five old a b c d e x y z u v h i j k l) m n
