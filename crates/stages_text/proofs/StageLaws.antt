-- Versions written one after another, and read back.
use Rattle.std.proofs.Common.{◌≡◌, ℕ, ◌+◌, ◌<◌, ◌≤◌, zero, suc, List, [], ◌∷◌, ◌++◌, length, get_or, drop, refl, ap, sym, ◌∙◌, arith, append_assoc, append-nil}
use Rattle.std.specs.Prelude.{All}
use Rattle.std.proofs.lemmas.List.{drop_more}
use Rattle.text_tokens.specs.Kinds.{Text}
use Rattle.term_tree.specs.declared.term.Module.{Module}
use Rattle.atl_printer.specs.Canonical.{canonical_module}
use Rattle.atl_printer.specs.PrintableModule.{IsPrintableModule}
use Rattle.atl_printer.proofs.CanonicalText.{reads-back}
use Rattle.stages_text.specs.Stages.{AreBlocks, block, stages, stages_from, version_line}

-- a text with one block more, and the versions behind it
pub one_more : (ms : List Module) (v : ℕ) (m : Module) (before text : Text) → v < length ms → m ≡ get_or ms v m → text ≡ before ++ block v m
    → before ++ stages_from v (drop v ms) ≡ stages ms → text ++ stages_from (v + 1) (drop (v + 1) ms) ≡ stages ms
one_more ms v m before text within at put whole =
    let rest : Text = stages_from (v + 1) (drop (v + 1) ms) in
    let left : drop v ms ≡ m ∷ drop (v + 1) ms = drop_more ms v m within ∙ ap (λ x. x ∷ drop (v + 1) ms) (sym at) in
    ap (λ t. t ++ rest) put ∙ append_assoc before (block v m) rest ∙ ap (λ xs. before ++ stages_from v xs) (sym left) ∙ whole

nothing_left : (ms : List Module) (v : ℕ) → length ms ≤ v → drop v ms ≡ []
nothing_left [] zero h = refl
nothing_left [] (suc v) h = refl
nothing_left (m ∷ ms) zero h = absurd (omega (arith, h))
nothing_left (m ∷ ms) (suc v) h = nothing_left ms v (omega (arith, h))

-- the text behind the last version is the whole one
pub all_written : (ms : List Module) (v : ℕ) (text : Text) → length ms ≤ v → text ++ stages_from v (drop v ms) ≡ stages ms → text ≡ stages ms
all_written ms v text past whole =
    sym (append-nil text) ∙ ap (λ xs. text ++ stages_from v xs) (sym (nothing_left ms v past)) ∙ whole

-- each block of the text reads back
blocks_from : (ms : List Module) (v : ℕ) → All IsPrintableModule ms → AreBlocks v ms (stages_from v ms)
blocks_from [] v h = refl
blocks_from (m ∷ ms) v h = (
  stages_from (v + 1) ms,
  record {
    below = canonical_module m;
    stands = append_assoc (version_line v) (canonical_module m) (stages_from (v + 1) ms);
    reads = reads-back m (h zero m (omega arith));
  },
  blocks_from ms (v + 1) (λ k d l. h (suc k) d (omega (arith, l))),
)

pub blocks : (ms : List Module) → All IsPrintableModule ms → AreBlocks 0 ms (stages ms)
blocks ms h = blocks_from ms 0 h
