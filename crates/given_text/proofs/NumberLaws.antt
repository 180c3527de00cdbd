-- Numbers as long as they come: beside the loop that reads them, and as their grammar says.
use Rattle.std.proofs.Common.{◌≡◌, inl, inr, ℕ, ◌<◌, Bool, true, false, cond, List, [], ◌∷◌, ◌++◌, length, Result, Ok, Err, refl, sym, ap, subst, ◌∙◌}
use Rattle.std.proofs.Common.{append_assoc, append-nil, arith}
use Rattle.text_tokens.specs.declared.kind.Kind.{Kind}
use Rattle.text_tokens.specs.declared.kind.Kind.TheVariants as k
use Rattle.text_tokens.specs.Kinds.{same_kind}
use Rattle.text_tokens.specs.Words.{Word, Input, peek, next}
use Rattle.reader_laws.specs.declared.fault.Fault.{Fault}
use Rattle.reader_laws.specs.declared.fault.ReadError.{ReadError}
use Rattle.reader_laws.specs.declared.fault.ReadError.TheVariants.{Memory, Refused}
use Rattle.reader_laws.specs.Steps.{Outcome, and_then, kind, text, refusal, read_as}
use Rattle.reader_laws.specs.Levels.{word_in, unexpected_in}
use Rattle.reader_laws.proofs.Outcomes.{ahead, is_same, same_self, ok_value, ok_input}
use Rattle.reader_laws.proofs.Local.{Alike, Nowhere, Ends, moved, Local}
use Rattle.reader_laws.proofs.Lawful.{Found, Lawful}
use Rattle.given_text.specs.Given.{word_value, AreNumbers}
use Rattle.given_text.specs.Reading.{with_number, numbers_from, numbers}
use Rattle.given_text.proofs.Begins.{Cut, Begins}

abbrev pub is_number : Kind → Bool
is_number kd = same_kind kd k.Number

abbrev at : ℕ → List Word → Input
at end ws = record { words = ws; end = end }

pub other_number : (kd : Kind) → (kd ≡ k.Number → ⊥) → is_number kd ≡ false
other_number kd other = go (is_number kd) refl
  where
    go : (b : Bool) → is_number kd ≡ b → is_number kd ≡ false
    go true e = absurd (other (is_same kd k.Number e))
    go false e = e

end_is_none : is_number k.End ≡ false
end_is_none = other_number k.End (λ (z : k.End ≡ k.Number). cc)

both_ways : (b : Bool) → b ≡ true → b ≡ false → ⊥
both_ways b h e = cc

-- ---- one step of the loop

step : (end : ℕ) (found : List ℕ) (w : Word) (ws : List Word) (r : Result ℕ Fault)
    → with_number r w (λ n. numbers_from end (found ++ n ∷ []) ws) ≡ and_then (read_as r (at end (w ∷ ws))) (λ n. numbers (found ++ n ∷ []))
unfolding numbers refusal peek next
step end found w ws (Ok n) = refl
step end found w ws (Err fault) = refl

step_in : (end : ℕ) (found : List ℕ) (ws : List Word) → is_number (kind (at end ws)) ≡ true
    → numbers found (at end ws) ≡ and_then (word_in 1 k.Number word_value (at end ws)) (λ n. numbers (found ++ n ∷ []))
unfolding numbers word_in peek
step_in end found [] h = absurd (both_ways (is_number k.End) h end_is_none)
step_in end found (w ∷ ws) h = rw h (step end found w ws (word_value w.text))

-- a number is read, and then the others
pub goes : (found : List ℕ) (i : Input) → is_number (kind i) ≡ true
    → numbers found i ≡ and_then (word_in 1 k.Number word_value i) (λ n. numbers (found ++ n ∷ []))
goes found i h = step_in i.end found i.words h

stop_in : (end : ℕ) (found : List ℕ) (ws : List Word) → is_number (kind (at end ws)) ≡ false → numbers found (at end ws) ≡ Ok (found, at end ws)
unfolding numbers peek
stop_in end found [] h = refl
stop_in end found (w ∷ ws) h = rw h refl

-- no number is left
pub stops : (found : List ℕ) (i : Input) → is_number (kind i) ≡ false → numbers found i ≡ Ok (found, i)
stops found i h = stop_in i.end found i.words h

more_in : (end : ℕ) (found : List ℕ) (w : Word) (ws : List Word) (n : ℕ) → is_number w.kind ≡ true → word_value w.text ≡ Ok n
    → numbers found (at end (w ∷ ws)) ≡ numbers (found ++ n ∷ []) (at end ws)
unfolding numbers
more_in end found w ws n h e = rw (h, e) refl

large : (found : List ℕ) (i : Input) (fault : Fault) → is_number (kind i) ≡ true → word_value (text i) ≡ Err fault → numbers found i ≡ Err (refusal fault i)
unfolding word_in refusal
large found i fault h e = goes found i h ∙ rw (h, e) refl

-- a number that is refused
pub number_refused : (found : List ℕ) (i : Input) (e : ReadError) → same_kind (kind i) k.Number ≡ true → word_in 1 k.Number word_value i ≡ Err e
    → numbers found i ≡ Err e
number_refused found i e h r = goes found i h ∙ ap (λ (o : Outcome ℕ). and_then o (λ n. numbers (found ++ n ∷ []))) r

-- a number that is read
pub number_read : (found : List ℕ) (n : ℕ) (i j : Input) → same_kind (kind i) k.Number ≡ true → word_in 1 k.Number word_value i ≡ Ok (n, j)
    → numbers found i ≡ numbers (found ++ n ∷ []) j
number_read found n i j h r = goes found i h ∙ ap (λ (o : Outcome ℕ). and_then o (λ n. numbers (found ++ n ∷ []))) r

shorter_in : (end : ℕ) (ws : List Word) (n : ℕ) (j : Input) → same_kind (kind (at end ws)) k.Number ≡ true
    → word_in 1 k.Number word_value (at end ws) ≡ Ok (n, j) → length j.words < length ws
unfolding word_in peek next
shorter_in end [] n j h r = absurd (both_ways (is_number k.End) h end_is_none)
shorter_in end (w ∷ ws) n j h r = by (same_kind w.kind k.Number) (word_value w.text) r
  where
    by : (b : Bool) (v : Result ℕ Fault) → cond b (read_as v (at end (w ∷ ws))) (unexpected_in 1 (at end (w ∷ ws))) ≡ Ok (n, j)
        → length j.words < length (w ∷ ws)
    by true (Ok m) r = let e = ap (λ (i : Input). length i.words) (ok_input m n (at end ws) j r) in omega (arith, e)
    by true (Err fault) r = absurd cc
    by false v r = absurd cc

-- a number that is read is a word less
pub number_shorter : (n : ℕ) (i j : Input) → same_kind (kind i) k.Number ≡ true → word_in 1 k.Number word_value i ≡ Ok (n, j) → length j.words < length i.words
number_shorter n i j h r = shorter_in i.end i.words n j h r

-- ---- what is read is numbers, and the other way round

pub record More (found : List ℕ) (i : Input) (xs : List ℕ) (j : Input) : Type 0 where
  pub front : List Word
  pub values : List ℕ
  pub words : i ≡ ahead front j
  pub is : AreNumbers front values
  pub whole : xs ≡ found ++ values

none_more : (found xs : List ℕ) (i j : Input) → (let o : Outcome (List ℕ) = Ok (found, i) in o) ≡ Ok (xs, j) → More found i xs j
none_more found xs i j h = record {
  front = [];
  values = [];
  words = ok_input found xs i j h;
  is = tt;
  whole = sym (ok_value found xs i j h) ∙ sym (append-nil found);
}

sound_in : (end : ℕ) (found xs : List ℕ) (ws : List Word) (j : Input) → numbers_from end found ws ≡ Ok (xs, j) → More found (at end ws) xs j
sound_in end found xs [] j h = none_more found xs (at end []) j h
sound_in end found xs (w ∷ ws) j h = go (is_number w.kind) (word_value w.text) refl refl (λ n e. sound_in end (found ++ n ∷ []) xs ws j e) h
  where
    go : (b : Bool) (r : Result ℕ Fault) → is_number w.kind ≡ b → word_value w.text ≡ r
        → ((n : ℕ) → numbers_from end (found ++ n ∷ []) ws ≡ Ok (xs, j) → More (found ++ n ∷ []) (at end ws) xs j)
        → cond b (with_number r w (λ n. numbers_from end (found ++ n ∷ []) ws)) (Ok (found, at end (w ∷ ws))) ≡ Ok (xs, j) → More found (at end (w ∷ ws)) xs j
    go true (Ok n) b e again h =
        let m = again n h in
        record {
          front = w ∷ m.front;
          values = n ∷ m.values;
          words = ap (ahead (w ∷ [])) m.words;
          is = (is_same w.kind k.Number b, e, m.is);
          whole = m.whole ∙ append_assoc found (n ∷ []) m.values;
        }
    go true (Err fault) b e again h = absurd cc
    go false r b e again h = none_more found xs (at end (w ∷ ws)) j h

complete_in : (found : List ℕ) (front : List Word) (ns : List ℕ) (j : Input) → AreNumbers front ns → is_number (kind j) ≡ false
    → numbers found (ahead front j) ≡ Ok (found ++ ns, j)
complete_in found [] [] j is h = stops found j h ∙ ap (λ (xs : List ℕ). let o : Outcome (List ℕ) = Ok (xs, j) in o) (sym (append-nil found))
complete_in found [] (n ∷ ns) j is h = absurd is
complete_in found (w ∷ ws) [] j is h = absurd is
complete_in found (w ∷ ws) (n ∷ ns) j is h =
    more_in j.end found w (ws ++ j.words) n (ap is_number is.0 ∙ same_self k.Number) is.1
    ∙ complete_in (found ++ n ∷ []) ws ns j is.2 h
    ∙ ap (λ (xs : List ℕ). let o : Outcome (List ℕ) = Ok (xs, j) in o) (append_assoc found (n ∷ []) ns)

-- ---- an outcome depends on no more words than it may

-- a fault stands at the next word
abbrev EndsHere : Outcome (List ℕ) → Input → Type 0
EndsHere (Ok p) i = p.1 ≡ i
EndsHere (Err Memory) i = ⊥
EndsHere (Err (Refused fault place)) i = place ≡ (peek i).place

ends_here : (o : Outcome (List ℕ)) (front : List Word) (i : Input) → EndsHere o i → Ends Nowhere o front i
ends_here (Ok p) front i h = h
ends_here (Err Memory) front i h = h
ends_here (Err (Refused fault place)) front i h = inr (inl h)

record SeenHere (found : List ℕ) (i : Input) : Type 0 where
  pub front : List Word
  pub at : Input
  pub words : i ≡ ahead front at
  pub ends : EndsHere (numbers found i) at
  pub again : (l : Input) → Alike l at → numbers found (ahead front l) ≡ moved (numbers found i) l

seen_stop : (found : List ℕ) (i : Input) → is_number (kind i) ≡ false → SeenHere found i
seen_stop found i h = record {
  front = [];
  at = i;
  words = refl;
  ends = subst (λ (o : Outcome (List ℕ)). EndsHere o i) (sym (stops found i h)) refl;
  again = λ l a. stops found l (ap (λ (w : Word). is_number w.kind) a.word ∙ h) ∙ ap (λ (o : Outcome (List ℕ)). moved o l) (sym (stops found i h));
}

seen_large : (found : List ℕ) (i : Input) (fault : Fault) → is_number (kind i) ≡ true → word_value (text i) ≡ Err fault → SeenHere found i
unfolding refusal
seen_large found i fault h e = record {
  front = [];
  at = i;
  words = refl;
  ends = subst (λ (o : Outcome (List ℕ)). EndsHere o i) (sym (large found i fault h e)) refl;
  again = λ l a. large found l fault (ap (λ (w : Word). is_number w.kind) a.word ∙ h) (ap (λ (w : Word). word_value w.text) a.word ∙ e)
      ∙ ap (λ (w : Word). let o : Outcome (List ℕ) = Err (Refused fault w.place) in o) a.word
      ∙ ap (λ (o : Outcome (List ℕ)). moved o l) (sym (large found i fault h e));
}

seen_in : (end : ℕ) (found : List ℕ) (ws : List Word) → SeenHere found (at end ws)
unfolding peek
seen_in end found [] = seen_stop found (at end []) end_is_none
seen_in end found (w ∷ ws) = go (is_number w.kind) (word_value w.text) refl refl (λ n. seen_in end (found ++ n ∷ []) ws)
  where
    go : (b : Bool) (r : Result ℕ Fault) → is_number w.kind ≡ b → word_value w.text ≡ r → ((n : ℕ) → SeenHere (found ++ n ∷ []) (at end ws))
        → SeenHere found (at end (w ∷ ws))
    go true (Ok n) h e again =
        let s = again n in
        let here = more_in end found w ws n h e in
        record {
          front = w ∷ s.front;
          at = s.at;
          words = ap (ahead (w ∷ [])) s.words;
          ends = subst (λ (o : Outcome (List ℕ)). EndsHere o s.at) (sym here) s.ends;
          again = λ l a. more_in l.end found w (s.front ++ l.words) n h e ∙ s.again l a ∙ ap (λ (o : Outcome (List ℕ)). moved o l) (sym here);
        }
    go true (Err fault) h e again = seen_large found (at end (w ∷ ws)) fault h e
    go false r h e again = seen_stop found (at end (w ∷ ws)) h

local_numbers : (found : List ℕ) → Local (numbers found)
local_numbers found i =
    let s = seen_in i.end found i.words in
    record { front = s.front; at = s.at; words = s.words; ends = ends_here (numbers found i) s.front s.at s.ends; again = s.again }

numbers_sound : (i j : Input) (x : List ℕ) → numbers [] i ≡ Ok (x, j) → Found AreNumbers i x j
unfolding numbers
numbers_sound i j x h =
    let m = sound_in i.end [] x i.words j h in
    record { front = m.front; words = m.words; is = subst (λ (xs : List ℕ). AreNumbers m.front xs) (sym m.whole) m.is }

pub lawful_numbers : Lawful (numbers []) AreNumbers is_number
lawful_numbers = record {
  sound = numbers_sound;
  complete = λ front x j is stops. complete_in [] front x j is stops;
  depends = local_numbers [];
}

-- ---- the words before a fault are numbers

refused : Fault → ℕ → Outcome (List ℕ)
refused fault place = Err (Refused fault place)

same_place : (f g : Fault) (m n : ℕ) → refused f m ≡ refused g n → n ≡ m
unfolding refused
same_place f g m n h = cc

record NumbersCut (i : Input) (place : ℕ) : Type 0 where
  pub front : List Word
  pub values : List ℕ
  pub at : Input
  pub words : i ≡ ahead front at
  pub stands : place ≡ (peek at).place
  pub is : AreNumbers front values

cut_in : (end : ℕ) (found : List ℕ) (ws : List Word) (fault : Fault) (place : ℕ) → numbers_from end found ws ≡ Err (Refused fault place)
    → NumbersCut (at end ws) place
unfolding refused peek
cut_in end found [] fault place h = absurd cc
cut_in end found (w ∷ ws) fault place h = go (is_number w.kind) (word_value w.text) refl refl (λ n e. cut_in end (found ++ n ∷ []) ws fault place e) h
  where
    go : (b : Bool) (r : Result ℕ Fault) → is_number w.kind ≡ b → word_value w.text ≡ r
        → ((n : ℕ) → numbers_from end (found ++ n ∷ []) ws ≡ Err (Refused fault place) → NumbersCut (at end ws) place)
        → cond b (with_number r w (λ n. numbers_from end (found ++ n ∷ []) ws)) (Ok (found, at end (w ∷ ws))) ≡ Err (Refused fault place)
        → NumbersCut (at end (w ∷ ws)) place
    go true (Ok n) b e again h =
        let c = again n h in
        record {
          front = w ∷ c.front;
          values = n ∷ c.values;
          at = c.at;
          words = ap (ahead (w ∷ [])) c.words;
          stands = c.stands;
          is = (is_same w.kind k.Number b, e, c.is);
        }
    go true (Err f) b e again h = record {
      front = [];
      values = [];
      at = at end (w ∷ ws);
      words = refl;
      stands = same_place f fault w.place place h;
      is = tt;
    }
    go false r b e again h = absurd cc

cut_numbers : (i : Input) (fault : Fault) (place : ℕ) → numbers [] i ≡ Err (Refused fault place) → Cut AreNumbers i place
unfolding numbers
cut_numbers i fault place h =
    let c = cut_in i.end [] i.words fault place h in
    record {
      front = c.front;
      at = c.at;
      words = c.words;
      stands = c.stands;
      goes = record { rest = []; value = c.values; is = subst (λ (ws : List Word). AreNumbers ws c.values) (sym (append-nil c.front)) c.is };
    }

pub begins_numbers : Begins (numbers []) AreNumbers
begins_numbers = record { cut = cut_numbers; some = record { rest = []; value = []; is = tt } }
