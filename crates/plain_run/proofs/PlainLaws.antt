-- From what reading and denoting say to what the plain evaluator makes of a given text.
use Rattle.std.proofs.Common.{◌≡◌, ◌∙◌, ℕ, ◌+◌, ◌<◌, ◌≤◌, nat_eq, nat_lt, Bool, true, false, if◌then◌else◌, List, [], ◌∷◌, length, map}
use Rattle.std.proofs.Common.{Option, Some, None, Result, Ok, Err, refl, ap, sym, subst, arith}
use Rattle.std.specs.Prelude.{IfErr, IfOk, MatchResult}
use Rattle.std.specs.declared.vec.Vec.{Vec}
use Rattle.std.proofs.lemmas.Bool.{lt-ltb, ltb-true}
use Rattle.std.proofs.lemmas.Bool.Decides.{nat_tests}
use Rattle.std.proofs.lemmas.List.{length-map}
use Rattle.text_tokens.specs.Kinds.{Text}
use Rattle.term_tree.specs.Modules.{Allowed, extents_at, module_den}
use Rattle.term_tree.specs.Shaped.{flat, word_count}
use Rattle.term_tree.specs.Tensors.{Tensor}
use Rattle.term_tree.specs.declared.term.InputDecl.{InputDecl}
use Rattle.term_tree.specs.declared.term.Module.{Module}
use Rattle.shape_rules.specs.Meant.{input_extents}
use Rattle.admission.specs.Admission.{broken}
use Rattle.source_grammar.specs.Source.{input_names, output_names, size_names}
use Rattle.loop_run.specs.declared.given.Given.{Given}
use Rattle.given_text.specs.Answer.{read_bytes}
use Rattle.given_text.specs.Answer as answer
use Rattle.given_text.specs.Given.{GivenText}
use Rattle.given_text.specs.declared.fault.GivenFault.{GivenFault}
use Rattle.given_text.specs.declared.fault.GivenFault.TheVariants as bad
use Rattle.run_text.specs.Outputs.{output_lines}
use Rattle.atl_meaning.specs.Turns.{module_turns}
use Rattle.atl_meaning.specs.Words.{first_big_input, module_big}
use Rattle.plain_run.specs.PlainRun.{Answers, IsGivenSo, IsPlainDenoted, IsPlainFault, most_turns, plain_at, plain_checked, plain_read, plain_run, plain_text}
use Rattle.plain_run.specs.PlainRun.{unless_big, unless_wrong, within_turns, wrong_input}
use Rattle.plain_run.specs.Shapes.{EachWords, capped_count, tensors_of, wrong_count}
use Rattle.plain_run.specs.declared.fault.PlainFault.{PlainFault}
use Rattle.plain_run.specs.declared.fault.PlainFault.TheVariants as f
use Rattle.plain_run.proofs.InputLaws.{are-inputs, counts-right, their-words}
use Rattle.plain_run.proofs.ShapeLaws.{counts-are}

abbrev text_so : Text → Result Text PlainFault
text_so t = Ok t

abbrev fault_so : PlainFault → Result Text PlainFault
fault_so k = Err k

same_text : (z t : Text) → text_so z ≡ text_so t → t ≡ z
same_text z t e = cc

same_fault : (k l : PlainFault) → fault_so k ≡ fault_so l → k ≡ l
same_fault k l e = cc

-- ---- what denoting says

not_over : (n most : ℕ) → n ≤ most → nat_lt most n ≡ false
not_over n most h = grind (arith, nat_tests)

over_of : (n most : ℕ) → nat_lt most n ≡ false → n ≤ most
over_of n most h = grind (arith, nat_tests)

module _ (A : Type 0) (m : Module) (s : List ℕ) where
  due-small : (due : Result Text PlainFault) → module_big m s ≡ None → unless_big (module_big m s) due ≡ due
  due-small due e = ap (λ (o : Option ℕ). unless_big o due) e

  -- something is too big
  pub answer-big : (due : Result Text PlainFault) (words : ℕ) → module_big m s ≡ Some words
      → Answers {A = A} (unless_big (module_big m s) due) (Err (f.TooBigToRun words))
  answer-big due words e = ap (λ (o : Option ℕ). unless_big o due) e

  -- the fault comes where nothing is too big
  pub answer-small : (due : Result Text PlainFault) (r : Result (Vec ℕ A) PlainFault) → module_big m s ≡ None → Answers due r
      → Answers (unless_big (module_big m s) due) r
  answer-small due r e h = subst (λ (x : Result Text PlainFault). Answers x r) (sym (due-small due e)) h

  pub answer-fault : (fault : PlainFault) → Answers {A = A} (Err fault) (Err fault)
  answer-fault (f.BadData at) = refl
  answer-fault (f.SizesNotAllowed constraint) = refl
  answer-fault (f.TooBigToRun words) = refl
  answer-fault (f.WrongCount i want got) = refl
  answer-fault (f.TooMuchWork steps) = refl
  answer-fault f.Memory = tt

  module _ (inputs : List Tensor) where
    -- the turns are too many
    pub answer-work : (steps : ℕ) → module_big m s ≡ None → most_turns < module_turns m s → steps ≡ most_turns + 1
        → Answers {A = A} (unless_big (module_big m s) (within_turns m s inputs)) (Err (f.TooMuchWork steps))
    answer-work steps e h is =
        due-small (within_turns m s inputs) e
        ∙ ap (λ (b : Bool). if b then Err (f.TooMuchWork (most_turns + 1)) else Ok (plain_text m s inputs)) (lt-ltb most_turns (module_turns m s) h)
        ∙ ap (λ (n : ℕ). fault_so (f.TooMuchWork n)) (sym is)

    answer-within : (r : Result (Vec ℕ A) PlainFault) (tensors : List Tensor) → tensors ≡ module_den m s inputs
        → MatchResult r (λ text. text.items ≡ output_lines (output_names m.outputs) (map flat tensors)) (λ fault. fault ≡ f.Memory)
        → Answers (Ok (plain_text m s inputs)) r
    answer-within (Ok text) tensors is h =
        ap text_so (sym (h ∙ ap (λ (ts : List Tensor). output_lines (output_names m.outputs) (map flat ts)) is))
    answer-within (Err k) tensors is h = subst (λ (x : PlainFault). Answers {A = A} (Ok (plain_text m s inputs)) (Err x)) (sym h) tt

    -- the lines of what is denoted
    pub answer-text : (r : Result (Vec ℕ A) PlainFault) (tensors : List Tensor) → module_big m s ≡ None → module_turns m s ≤ most_turns
        → tensors ≡ module_den m s inputs
        → MatchResult r (λ text. text.items ≡ output_lines (output_names m.outputs) (map flat tensors)) (λ fault. fault ≡ f.Memory)
        → Answers (unless_big (module_big m s) (within_turns m s inputs)) r
    answer-text r tensors e few is h =
        let within : within_turns m s inputs ≡ Ok (plain_text m s inputs) =
        ap (λ (b : Bool). if b then Err (f.TooMuchWork (most_turns + 1)) else Ok (plain_text m s inputs)) (not_over (module_turns m s) most_turns few) in
        answer-small (within_turns m s inputs) r e
        (subst (λ (x : Result Text PlainFault). Answers x r) (sym within) (answer-within r tensors is h))

  -- the words of the inputs are looked at before what is too big is known
  pub answer-shapes : (g : Given) (shapes : List (List ℕ)) (wrong : Option PlainFault) (inputs : List Tensor) (r : Result (Vec ℕ A) PlainFault)
      → shapes ≡ input_extents m s → first_big_input m.inputs s ≡ None → wrong ≡ wrong_count 0 (map capped_count shapes) g.inputs
      → inputs ≡ tensors_of shapes g.inputs → Answers (unless_big (module_big m s) (unless_wrong wrong (within_turns m s inputs))) r
      → Answers (unless_big (module_big m s) (unless_wrong (wrong_count 0 (map word_count (input_extents m s)) g.inputs)
      (within_turns m s (tensors_of (input_extents m s) g.inputs)))) r
  answer-shapes g shapes wrong inputs r are small counts made h =
      let right : wrong ≡ wrong_count 0 (map word_count (input_extents m s)) g.inputs =
      counts ∙ ap (λ (dss : List (List ℕ)). wrong_count 0 (map capped_count dss) g.inputs) are
      ∙ ap (λ (ns : List ℕ). wrong_count 0 ns g.inputs) (counts-are s m.inputs small) in
      let tensors : inputs ≡ tensors_of (input_extents m s) g.inputs = made ∙ ap (λ (dss : List (List ℕ)). tensors_of dss g.inputs) are in
      subst (λ (x : Option PlainFault). Answers (unless_big (module_big m s) (unless_wrong x (within_turns m s (tensors_of (input_extents m s) g.inputs)))) r)
      right
      (subst (λ (ts : List Tensor). Answers (unless_big (module_big m s) (unless_wrong wrong (within_turns m s ts))) r) tensors h)

-- ---- what reading says

module _ (A : Type 0) (m : Module) where
  pub answer-read : (z : Text) (g : Given) (r : Result (Vec ℕ A) PlainFault) → answer.Answers (Ok g) (read_bytes (size_names m.sizes) (input_names m.inputs) z)
      → Answers (plain_checked m g (broken m g.sizes)) r → Answers (plain_run m z) r
  unfolding plain_run
  answer-read z g r is h = subst (λ (x : Result Given GivenFault). Answers (plain_read m x) r) (sym is) h

  pub answer-unread : (z : Text) (at : ℕ) → answer.Answers (Err (bad.BadData at)) (read_bytes (size_names m.sizes) (input_names m.inputs) z)
      → Answers {A = A} (plain_run m z) (Err (f.BadData at))
  unfolding plain_run
  answer-unread z at is = ap (plain_read m) (is (λ (q : bad.BadData at ≡ bad.Memory). cc))

-- ---- what is told is what is denoted

big_ok : (o : Option ℕ) (due : Result Text PlainFault) (t : Text) → unless_big o due ≡ Ok t → due ≡ Ok t
big_ok None due t h = h
big_ok (Some words) due t h = absurd cc

wrong_ok : (o : Option PlainFault) (due : Result Text PlainFault) (t : Text) → unless_wrong o due ≡ Ok t → (o ≡ None) × (due ≡ Ok t)
wrong_ok None due t h = (refl, h)
wrong_ok (Some k) due t h = absurd cc

turns_ok : (b : Bool) (k : PlainFault) (x t : Text) → (if b then fault_so k else text_so x) ≡ Ok t → t ≡ x
turns_ok true k x t h = absurd cc
turns_ok false k x t h = same_text x t h

checked_ok : (m : Module) (g : Given) (o : Option ℕ) (t : Text) → plain_checked m g o ≡ Ok t → plain_at m g ≡ Ok t
checked_ok m g None t h = h
checked_ok m g (Some constraint) t h = absurd cc

abbrev count_so : PlainFault → Option PlainFault
count_so k = Some k

same_count : (k l : PlainFault) → count_so k ≡ count_so l → l ≡ k
same_count k l e = cc

record IsCount (k : PlainFault) : Type 0 where
  pub input : ℕ
  pub want : ℕ
  pub got : ℕ
  pub is : k ≡ f.WrongCount input want got

count-of : (at : ℕ) (ns : List ℕ) (wss : List (List ℕ)) (k : PlainFault) → wrong_count at ns wss ≡ Some k → IsCount k
count-of at [] wss k h = absurd cc
count-of at (n ∷ ns) [] k h = absurd cc
count-of at (n ∷ ns) (ws ∷ wss) k h = by (nat_eq (length ws) n) h (λ later. count-of (at + 1) ns wss k later)
  where
    by : (b : Bool) → (if b then wrong_count (at + 1) ns wss else count_so (f.WrongCount at n (length ws))) ≡ Some k
        → (wrong_count (at + 1) ns wss ≡ Some k → IsCount k) → IsCount k
    by true h later = later h
    by false h later = record { input = at; want = n; got = length ws; is = same_count (f.WrongCount at n (length ws)) k h }

module _ (m : Module) (z : Text) (g : Given) (reads : GivenText (size_names m.sizes) (input_names m.inputs) z g) where
  denoted : (text : Text) → length g.inputs ≡ length m.inputs → EachWords g.inputs → Allowed m g.sizes → plain_at m g ≡ Ok text → IsPlainDenoted m z text
  denoted text many words allowed h =
      let shapes = input_extents m g.sizes in
      let tensors = tensors_of shapes g.inputs in
      let due = within_turns m g.sizes tensors in
      let p = wrong_ok (wrong_input m g) due text (big_ok (module_big m g.sizes) (unless_wrong (wrong_input m g) due) text h) in
      let as_many : length g.inputs ≡ length (map word_count shapes) =
      many ∙ sym (length-map m.inputs (λ (d : InputDecl). extents_at d.extents g.sizes)) ∙ sym (length-map shapes word_count) in
      let counts = counts-right 0 (map word_count shapes) g.inputs p.0 as_many in
      record {
        gives = g;
        reads = reads;
        allowed = allowed;
        inputs = tensors;
        are = are-inputs m.inputs g.sizes g.inputs many words;
        words = their-words shapes g.inputs counts;
        tells = turns_ok (nat_lt most_turns (module_turns m g.sizes)) (f.TooMuchWork (most_turns + 1)) (plain_text m g.sizes tensors) text p.1;
      }

  pub denoted-told : (A : Type 0) (r : Result (Vec ℕ A) PlainFault) → length g.inputs ≡ length m.inputs → EachWords g.inputs
      → Answers (plain_checked m g (broken m g.sizes)) r → IfOk r (λ _. Allowed m g.sizes) → IfOk r (λ told. IsPlainDenoted m z told.items)
  denoted-told A (Ok text) many words h allowed = denoted text.items many words allowed (checked_ok m g (broken m g.sizes) text.items h)
  denoted-told A (Err k) many words h allowed = tt

  -- ---- a fault has its cause

  given-so : (P : Given → Type 0) → P g → IsGivenSo m P z
  given-so P cause = record { gives = g; reads = reads; cause = cause }

  caused-work : (b : Bool) (k : PlainFault) → broken m g.sizes ≡ None → module_big m g.sizes ≡ None → wrong_input m g ≡ None
      → nat_lt most_turns (module_turns m g.sizes) ≡ b
      → (if b then fault_so (f.TooMuchWork (most_turns + 1)) else text_so (plain_text m g.sizes (tensors_of (input_extents m g.sizes) g.inputs))) ≡ Err k
      → IsPlainFault m z k
  caused-work true k kept small right over h =
      subst (IsPlainFault m z) (same_fault (f.TooMuchWork (most_turns + 1)) k h)
      (given-so _ ((kept, small), right, ltb-true most_turns (module_turns m g.sizes) over, refl))
  caused-work false k kept small right over h = absurd cc

  caused-wrong : (k : PlainFault) → broken m g.sizes ≡ None → module_big m g.sizes ≡ None → wrong_input m g ≡ Some k → IsPlainFault m z k
  caused-wrong k kept small is =
      let c = count-of 0 (map word_count (input_extents m g.sizes)) g.inputs k is in
      subst (IsPlainFault m z) (sym c.is) (given-so _ ((kept, small), is ∙ ap count_so c.is))

  caused-words : (o : Option PlainFault) (k : PlainFault) → broken m g.sizes ≡ None → module_big m g.sizes ≡ None → wrong_input m g ≡ o
      → unless_wrong o (within_turns m g.sizes (tensors_of (input_extents m g.sizes) g.inputs)) ≡ Err k → IsPlainFault m z k
  caused-words None k kept small is h = caused-work (nat_lt most_turns (module_turns m g.sizes)) k kept small is refl h
  caused-words (Some l) k kept small is h = subst (IsPlainFault m z) (same_fault l k h) (caused-wrong l kept small is)

  caused-big : (o : Option ℕ) (k : PlainFault) → broken m g.sizes ≡ None → module_big m g.sizes ≡ o
      → unless_big o (unless_wrong (wrong_input m g) (within_turns m g.sizes (tensors_of (input_extents m g.sizes) g.inputs))) ≡ Err k → IsPlainFault m z k
  caused-big None k kept is h = caused-words (wrong_input m g) k kept is refl h
  caused-big (Some words) k kept is h = subst (IsPlainFault m z) (same_fault (f.TooBigToRun words) k h) (given-so _ (kept, is))

  caused-on : (o : Option ℕ) (k : PlainFault) → broken m g.sizes ≡ o → plain_checked m g o ≡ Err k → IsPlainFault m z k
  caused-on None k is h = caused-big (module_big m g.sizes) k is refl h
  caused-on (Some constraint) k is h = subst (IsPlainFault m z) (same_fault (f.SizesNotAllowed constraint) k h) (given-so _ is)

  pub cause-told : (A : Type 0) (r : Result (Vec ℕ A) PlainFault) → Answers (plain_checked m g (broken m g.sizes)) r → IfErr r (λ k. IsPlainFault m z k)
  cause-told A (Ok text) h = tt
  cause-told A (Err (f.BadData at)) h = caused-on (broken m g.sizes) (f.BadData at) refl h
  cause-told A (Err (f.SizesNotAllowed constraint)) h = caused-on (broken m g.sizes) (f.SizesNotAllowed constraint) refl h
  cause-told A (Err (f.TooBigToRun n)) h = caused-on (broken m g.sizes) (f.TooBigToRun n) refl h
  cause-told A (Err (f.WrongCount i want got)) h = caused-on (broken m g.sizes) (f.WrongCount i want got) refl h
  cause-told A (Err (f.TooMuchWork steps)) h = caused-on (broken m g.sizes) (f.TooMuchWork steps) refl h
  cause-told A (Err f.Memory) h = tt
