-- A script of the grammar is printable.
use Rattle.std.proofs.Common.{◌≡◌, inl, inr, ℕ, zero, suc, ◌<◌, ◌≤◌, List, [], ◌∷◌, ◌++◌, length}
use Rattle.std.proofs.Common.{Result, Ok, refl, sym, ap, ◌∙◌, subst, arith, append_assoc}
use Rattle.std.specs.Prelude.{ℤ, pos, neg_ℤ, unsigned_abs}
use Rattle.std.proofs.lemmas.List.{append-nil}
use Rattle.text_tokens.specs.declared.kind.Kind.{Kind}
use Rattle.text_tokens.specs.declared.kind.Kind.TheVariants as k
use Rattle.text_tokens.specs.Kinds.{Text}
use Rattle.text_tokens.specs.Words.{Word}
use Rattle.affine_index.specs.declared.cond.Rel.{Rel}
use Rattle.term_tree.specs.declared.term.Path.{Path}
use Rattle.linear_cert.specs.declared.lines.Line.{Line}
use Rattle.linear_cert.specs.declared.lines.Lines.{Lines}
use Rattle.linear_cert.specs.declared.lines.FinalLine.{FinalLine}
use Rattle.reader_laws.specs.declared.fault.Fault.{Fault}
use Rattle.reader_laws.specs.Chain.{signed}
use Rattle.reader_laws.specs.Grammar.{IsChain, IsRepeated, IsWordOf, OneOf}
use Rattle.schedule_script.specs.declared.tree.ArgTree.{ArgTree}
use Rattle.schedule_script.specs.declared.tree.ArgTree.TheVariants.{Ix}
use Rattle.schedule_script.specs.declared.tree.Comparison.{Comparison}
use Rattle.schedule_script.specs.declared.tree.IxTree.{IxTree}
use Rattle.schedule_script.specs.declared.tree.Step.{Step}
use Rattle.schedule_script.specs.declared.tree.Script.{Script}
use Rattle.schedule_script.specs.Index.{IsIndex}
use Rattle.schedule_script.specs.Arguments.{conditions, IsComparison, IsConditionAfter, IsArgument}
use Rattle.schedule_script.specs.Words.{count_value, multiplier_value, most_items, most_steps, with_last}
use Rattle.schedule_script.specs.Steps.{IsPath, IsMultiplierBy, IsLine, AreGivenBy, IsCertificate, AreArguments, IfArguments, IsStep, IsFinalLine}
use Rattle.schedule_script.specs.Script.{IsScript}
use Rattle.script_printer.specs.Printable.{AreSeparated, Each, IsCount, IsGoodArgument, IsGoodCertificate, IsGoodComparison, IsGoodFinal, IsGoodIndex}
use Rattle.script_printer.specs.Printable.{IsGoodLine, IsGoodPath, IsGoodStep, IsPrintable}
use Rattle.script_printer.proofs.ReadIndices.{AreNamed, index-good, name_of, named_cut, number-within}

-- ---- lists

-- what was read behind others: good items, so many at most
record Grown {A : Type 0} (P : A → Type 0) (n : ℕ) (left x : List A) : Type 0 where
  more : List A
  is : x ≡ left ++ more
  few : length more ≤ n
  each : Each P more

abbrev the_ok : {A : Type 0} → A → Result A Fault
the_ok x = Ok x

value_is : {A : Type 0} (x y : A) → the_ok x ≡ the_ok y → x ≡ y
value_is x y h = cc

repeated-good : {A : Type 0} (P : A → Type 0) (rule : List Word → A → Type 0) → ((ws : List Word) (x : A) → AreNamed ws → rule ws x → P x)
    → (kd : Kind) (n : ℕ) (left x : List A) (ws : List Word) → AreNamed ws → IsRepeated kd with_last (λ _. rule) n left ws x → Grown P n left x
unfolding signed
repeated-good P rule g kd zero left x ws h p = record { more = []; is = p.1 ∙ sym (append-nil left); few = omega arith; each = tt }
repeated-good P rule g kd (suc n) left x ws h (inl p) = record { more = []; is = p.1 ∙ sym (append-nil left); few = omega arith; each = tt }
repeated-good P rule g kd (suc n) left x ws h (inr p) =
    let w = named_cut ws (p.word ∷ p.front) p.rest p.words h in
    let r = repeated-good P rule g kd n p.value x p.rest w.1 p.is_rest in
    let few = r.few in
    record {
      more = p.right ∷ r.more;
      is = r.is ∙ ap (λ ys. ys ++ r.more) (sym (value_is (left ++ p.right ∷ []) p.value p.joins)) ∙ append_assoc left (p.right ∷ []) r.more;
      few = omega (arith, few);
      each = (g p.front p.right w.0.1 p.is_operand, r.each);
    }

all_good : {A : Type 0} (P : A → Type 0) (n : ℕ) (x : List A) → Grown P n [] x → (length x ≤ n) × Each P x
all_good {A = A} P n x r = subst (λ (ys : List A). (length ys ≤ n) × Each P ys) (sym r.is) (r.few, r.each)

separated : {A : Type 0} (P : A → Type 0) (a : A) (x : List A) → P a → Grown P most_items (a ∷ []) x → AreSeparated P x
separated P a x g r = subst (AreSeparated P) (sym r.is) (g, (r.few, r.each))

-- ---- arguments

an_index : (ws : List Word) (x : IxTree) → AreNamed ws → IsIndex 999 ws x → IsGoodIndex x
an_index ws x h p = index-good 999 ws x h p

comparison-good : (ws : List Word) (x : Comparison) → AreNamed ws → IsComparison 999 ws x → IsGoodComparison x
comparison-good ws x h p =
    let w = named_cut ws p.front p.rest p.words h in
    let q = p.is_then in
    let v = named_cut p.rest q.front q.rest q.words w.1 in
    let r = q.is_then in
    let u = named_cut q.rest r.front r.rest r.words v.1 in
    subst IsGoodComparison (sym r.is_then.1) (an_index p.front p.value w.0 p.is_first, an_index r.front r.value u.0 r.is_first)

condition-good : (a : IxTree) (r : Rel) (ws : List Word) (x : ArgTree) → IsGoodIndex a → AreNamed ws → IsConditionAfter 999 a r ws x → IsGoodArgument x
condition-good a r ws x g h p =
    let w = named_cut ws p.front p.rest p.words h in
    let q = p.is_then in
    let v = named_cut p.rest q.front q.rest q.words w.1 in
    let first : Comparison = record { left = a; rel = r; right = p.value } in
    let more = repeated-good IsGoodComparison (IsComparison 999) comparison-good k.And most_items (first ∷ []) q.value q.front v.0 q.is_first in
    subst IsGoodArgument (sym q.is_then.1)
    (subst (λ (cs : List Comparison). (0 < length cs) × AreSeparated IsGoodComparison cs) (sym more.is)
    (omega arith, ((g, an_index p.front p.value w.0 p.is_first), (more.few, more.each))))

argument-good : (ws : List Word) (x : ArgTree) → AreNamed ws → IsArgument 999 ws x → IsGoodArgument x
unfolding conditions
argument-good ws x h p =
    let w = named_cut ws p.front p.rest p.words h in
    let g = an_index p.front p.value w.0 p.is_first in
    by p.value p.rest g w.1 p.is_then
  where
    by : (a : IxTree) (rest : List Word) → IsGoodIndex a → AreNamed rest → IsChain conditions (λ n y r. IsConditionAfter 999 a r) 1 (Ix a) rest x
        → IsGoodArgument x
    by a rest g u (inl e) = subst IsGoodArgument (sym e.1) g
    by a rest g u (inr q) =
        let v = named_cut rest (q.word ∷ q.front) q.rest q.words u in
        subst IsGoodArgument (value_is q.right q.value q.joins ∙ sym q.is_rest.1) (condition-good a q.sign q.front q.right g v.0.1 q.is_operand)

arguments-good : (ws : List Word) (x : List ArgTree) → AreNamed ws → AreArguments ws x → AreSeparated IsGoodArgument x
arguments-good ws x h p =
    let w = named_cut ws p.front p.rest p.words h in
    let q = p.is_then in
    let v = named_cut p.rest q.front q.rest q.words w.1 in
    subst (AreSeparated IsGoodArgument) (sym q.is_then.is_then.1) (separated IsGoodArgument p.value q.value (argument-good p.front p.value w.0 p.is_first)
    (repeated-good IsGoodArgument (IsArgument 999) argument-good k.Comma most_items (p.value ∷ []) q.value q.front v.0 q.is_first))

if_arguments-good : (ws : List Word) (x : List ArgTree) → AreNamed ws → IfArguments ws x → AreSeparated IsGoodArgument x
unfolding signed
if_arguments-good ws x h (inl p) = subst (AreSeparated IsGoodArgument) (sym p.1) tt
if_arguments-good ws x h (inr q) =
    let v = named_cut ws (q.word ∷ q.front) q.rest q.words h in
    subst (AreSeparated IsGoodArgument) (value_is q.right q.value q.joins ∙ sym q.is_rest.1) (arguments-good q.front q.right v.0.1 q.is_operand)

-- ---- certificates

count-good : (ws : List Word) (n : ℕ) → AreNamed ws → IsWordOf k.Number count_value ws n → IsCount n
count-good ws n h p = let e = number-within 0 4294967295 p.word.text n p.reads_as in omega (arith, e.1)

size-within : (ws : List Word) (n : ℕ) → IsWordOf k.Number multiplier_value ws n → n ≤ 2147483648
size-within ws n p = (number-within 0 2147483648 p.word.text n p.reads_as).1

negated_size : (n : ℕ) → unsigned_abs (neg_ℤ (pos n)) ≡ n
negated_size zero = refl
negated_size (suc n) = refl

multiplier-good : (ws : List Word) (z : ℤ) → OneOf IsMultiplierBy ws z → unsigned_abs z ≤ 2147483648
multiplier-good ws z (k.Number, p) = subst (λ (y : ℤ). unsigned_abs y ≤ 2147483648) (sym p.is_then.1) (size-within p.front p.value p.is_first)
multiplier-good ws z (k.Minus, p) =
    let q = p.is_then in
    subst (λ (y : ℤ). unsigned_abs y ≤ 2147483648) (sym q.is_then.1)
    (subst (λ (n : ℕ). n ≤ 2147483648) (sym (negated_size q.value)) (size-within q.front q.value q.is_first))
multiplier-good ws z (kd, p) = absurd (p)

line-good : (ws : List Word) (x : Line) → AreNamed ws → IsLine ws x → IsGoodLine x
line-good ws x h p =
    let w = named_cut ws p.front p.rest p.words h in
    let q = p.is_then.is_then in
    subst IsGoodLine (sym q.is_then.1) (count-good p.front p.value w.0 p.is_first, multiplier-good q.front q.value q.is_first)

given-good : (ws : List Word) (x : Lines) → AreNamed ws → OneOf AreGivenBy ws x → IsGoodCertificate x
given-good ws x h (k.RBrace, p) = subst IsGoodCertificate (sym p.is_then.1) tt
given-good ws x h (k.Number, p) =
    let w = named_cut ws p.front p.rest p.words h in
    let q = p.is_then in
    let v = named_cut p.rest q.front q.rest q.words w.1 in
    subst IsGoodCertificate (sym q.is_then.is_then.1) (separated IsGoodLine p.value q.value (line-good p.front p.value w.0 p.is_first)
    (repeated-good IsGoodLine IsLine line-good k.Comma most_items (p.value ∷ []) q.value q.front v.0 q.is_first))
given-good ws x h (kd, p) = absurd (p)

certificate-good : (ws : List Word) (x : Lines) → AreNamed ws → IsCertificate ws x → IsGoodCertificate x
certificate-good ws x h (k.Default, p) = subst IsGoodCertificate (sym p.is_then.1) tt
certificate-good ws x h (k.LBrace, p) = let w = named_cut ws p.front p.rest p.words h in given-good p.rest x w.1 p.is_then
certificate-good ws x h (kd, p) = absurd (p)

-- ---- steps

path-good : (ws : List Word) (x : Path) → AreNamed ws → IsPath ws x → IsGoodPath x
path-good ws x h p =
    let w = named_cut ws p.front p.rest p.words h in
    let q = p.is_then in
    let v = named_cut p.rest q.front q.rest q.words w.1 in
    subst IsGoodPath (sym q.is_then.1) (
      count-good p.front p.value w.0 p.is_first,
      all_good IsCount most_items q.value
          (repeated-good IsCount (IsWordOf k.Number count_value) count-good k.Dot most_items [] q.value q.front v.0 q.is_first),
    )

own_text : (s t : Text) (x : Result Text Fault) → x ≡ Ok s → x ≡ Ok t → s ≡ t
own_text s t x e f = cc

step-good : (ws : List Word) (x : Step) → AreNamed ws → IsStep ws x → IsGoodStep x
step-good ws x h p =
    let w = named_cut ws p.front p.rest p.words h in
    let d = p.is_then in
    let v = named_cut p.rest d.front d.rest d.words w.1 in
    let n = d.is_then in
    let u = named_cut d.rest n.front n.rest n.words v.1 in
    let a = n.is_then in
    let t = named_cut n.rest a.front a.rest a.words u.1 in
    let c = a.is_then in
    let s = named_cut a.rest c.front c.rest c.words t.1 in
    subst IsGoodStep (sym c.is_then.is_then.1) (record {
      path = path-good p.front p.value w.0 p.is_first;
      rule = name_of n.front (λ z. Ok z) n.value n.is_first (own_text n.is_first.word.text n.value (Ok n.is_first.word.text) refl n.is_first.reads_as) u.0;
      args = if_arguments-good a.front a.value t.0 a.is_first;
      lines = all_good IsGoodCertificate most_items c.value
          (repeated-good IsGoodCertificate IsCertificate certificate-good k.By most_items [] c.value c.front s.0 c.is_first);
    })

final-good : (ws : List Word) (x : FinalLine) → AreNamed ws → IsFinalLine ws x → IsGoodFinal x
final-good ws x h p =
    let w = named_cut ws p.front p.rest p.words h in
    let b = p.is_then in
    let v = named_cut p.rest b.front b.rest b.words w.1 in
    let c = b.is_then in
    let u = named_cut b.rest c.front c.rest c.words v.1 in
    subst IsGoodFinal (sym c.is_then.is_then.1) (count-good p.front p.value w.0 p.is_first, certificate-good c.front c.value u.0 c.is_first)

-- a script of the grammar is printable
pub script-printable : (ws : List Word) (x : Script) → AreNamed ws → IsScript ws x → IsPrintable x
script-printable ws x h p =
    let w = named_cut ws p.front p.rest p.words h in
    let s = p.is_then in
    let v = named_cut p.rest s.front s.rest s.words w.1 in
    let f = s.is_then in
    let u = named_cut s.rest f.front f.rest f.words v.1 in
    let steps = all_good IsGoodStep most_steps s.value (repeated-good IsGoodStep IsStep step-good k.At most_steps [] s.value s.front v.0 s.is_first) in
    subst IsPrintable (sym f.is_then.1) (record {
      few = steps.0;
      steps = steps.1;
      finals = all_good IsGoodFinal most_items f.value
          (repeated-good IsGoodFinal IsFinalLine final-good k.Goal most_items [] f.value f.front u.0 f.is_first);
      parallel = refl;
    })
