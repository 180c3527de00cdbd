-- The word of a relation, as it is told by its kind.
use Rattle.std.proofs.Common.{◌≡◌, Option, Some, None, Ok, Err, refl, ap}
use Rattle.text_tokens.specs.declared.kind.Kind.{Kind}
use Rattle.text_tokens.specs.declared.kind.Kind.TheVariants as k
use Rattle.text_tokens.specs.Words.{Input, next}
use Rattle.affine_index.specs.declared.cond.Rel.{Rel}
use Rattle.affine_index.specs.declared.cond.Rel.TheVariants as rel
use Rattle.reader_laws.specs.Steps.{Outcome, kind, misplaced, a_word}
use Rattle.reader_laws.proofs.Outcomes.{same_self}
use Rattle.schedule_script.specs.Arguments.{relation, related, relation_by, relation_word}

abbrev some_rel : Rel → Option Rel
some_rel r = Some r

same_rel : (r s : Rel) → some_rel r ≡ some_rel s → r ≡ s
same_rel r s h = cc

abbrev took : Input → Rel → Outcome Rel
took i r = Ok (r, next i)

word_taken : (a : Kind) (r s : Rel) (i : Input) → kind i ≡ a → some_rel r ≡ some_rel s → related a r i ≡ took i s
unfolding related a_word
word_taken a r s i is h = rw (is, same_self a) (ap (took i) (same_rel r s h))

taken_by : (kd : Kind) (r : Rel) (i : Input) → kind i ≡ kd → relation kd ≡ Some r → relation_by kd i ≡ took i r
taken_by k.Less r i is h = word_taken k.Less rel.Lt r i is h
taken_by k.LessEqual r i is h = word_taken k.LessEqual rel.Le r i is h
taken_by k.Greater r i is h = word_taken k.Greater rel.Gt r i is h
taken_by k.GreaterEqual r i is h = word_taken k.GreaterEqual rel.Ge r i is h
taken_by k.Equal r i is h = word_taken k.Equal rel.Eq r i is h
taken_by _ r i is h = absurd cc

refused_by : (kd : Kind) (i : Input) → relation kd ≡ None → relation_by kd i ≡ Err (misplaced i)
refused_by k.Less i h = absurd cc
refused_by k.LessEqual i h = absurd cc
refused_by k.Greater i h = absurd cc
refused_by k.GreaterEqual i h = absurd cc
refused_by k.Equal i h = absurd cc
refused_by _ i h = refl

pub relation_taken : (i : Input) (r : Rel) → relation (kind i) ≡ Some r → relation_word i ≡ Ok (r, next i)
unfolding relation_word
relation_taken i r h = taken_by (kind i) r i refl h

pub relation_refused : (i : Input) → relation (kind i) ≡ None → relation_word i ≡ Err (misplaced i)
unfolding relation_word
relation_refused i h = refused_by (kind i) i h
