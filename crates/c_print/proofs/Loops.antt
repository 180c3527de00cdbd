-- One more turn of a loop that appends, and lists of parameters in parts.
use Rattle.std.proofs.Common.{◌≡◌, ℕ, zero, suc, ◌+◌, ◌-◌, ◌<◌, ◌≤◌, List, [], ◌∷◌, ◌++◌, length, take, get_or, map, min, refl, ap, sym, ◌∙◌, append_assoc}
use Rattle.std.proofs.Common.{add-one, arith}
use Rattle.std.proofs.lemmas.List.{append-nil}
use Rattle.std.specs.List.{flat_map, range_with_len, zip}
use Rattle.std.proofs.lemmas.List.{take_more, take_all}
use Rattle.std.proofs.lemmas.List.Concat.{flat_map-append}
use Rattle.std.proofs.lemmas.List.FromFn.{map-range_with_len_more}
use Rattle.std.proofs.lemmas.Slice.Zip.{length-zip, get_or-zip}
use Rattle.loop_lang.specs.declared.index.Iexp.{Iexp}
use Rattle.loop_lang.specs.declared.word.Buf.{Buf}
use Rattle.c_print.specs.Level.{Text}
use Rattle.c_print.specs.Statement.{indentation}
use Rattle.c_print.specs.Program.{after_comma, with_commas, size_parameter, size_parameters, length_line, length_entry, length_lines}

indentation_suc : (n : ℕ) → indentation (suc n) ≡ indentation n ++ 32 ∷ 32 ∷ []
indentation_suc zero = refl
indentation_suc (suc n) = ap (λ t. 32 ∷ 32 ∷ t) (indentation_suc n)

pub indentation_more : (n : ℕ) → indentation (n + 1) ≡ indentation n ++ 32 ∷ 32 ∷ []
indentation_more n = rw add-one (indentation_suc n)

-- the sizes behind the first
pub sizes_more : (n : ℕ) → 1 ≤ n
    → flat_map after_comma (map size_parameter (range_with_len 1 (n + 1 - 1))) ≡ flat_map after_comma (map size_parameter (range_with_len 1 (n - 1)))
    ++ after_comma (size_parameter n)
sizes_more n h =
    let e : n + 1 - 1 ≡ n - 1 + 1 = omega arith in
    let after : 1 + (n - 1) ≡ n = omega arith in
    rw (e, map-range_with_len_more size_parameter 1 (n - 1) n after, flat_map-append)
    (ap (λ t. flat_map after_comma (map size_parameter (range_with_len 1 (n - 1))) ++ t) (append-nil (after_comma (size_parameter n))))

pub sizes_split : (n : ℕ) → 0 < n → with_commas (size_parameters n) ≡ size_parameter 0 ++ flat_map after_comma (map size_parameter (range_with_len 1 (n - 1)))
sizes_split zero h = absurd (omega arith)
sizes_split (suc m) h = let e : suc m - 1 ≡ m = omega arith in rw e refl

pub sizes_before : (n : ℕ) (ts : List Text) → 0 < n → with_commas (size_parameters n ++ ts) ≡ with_commas (size_parameters n) ++ flat_map after_comma ts
sizes_before zero ts h = absurd (omega arith)
sizes_before (suc m) ts h =
    ap (λ t. size_parameter 0 ++ t) (flat_map-append after_comma (map size_parameter (range_with_len 1 m)) ts)
    ∙ sym (append_assoc (size_parameter 0) (flat_map after_comma (map size_parameter (range_with_len 1 m))) (flat_map after_comma ts))

pub ruleset sizes_laws = (sizes_split, sizes_before)

pub lengths_more : (sizes : ℕ) (bs : List Buf) (ns : List Iexp) (i : ℕ) (d : Buf) (n : Iexp) → i < length bs → i < length ns → n ≡ get_or ns i n
    → flat_map (length_entry sizes) (take (i + 1) (zip bs ns)) ≡ flat_map (length_entry sizes) (take i (zip bs ns)) ++ length_line sizes (get_or bs i d) n
lengths_more sizes bs ns i d n h k e =
    let within : i < length (zip bs ns) = omega (arith, length-zip bs ns) in
    let entry : get_or (zip bs ns) i (d, n) ≡ (get_or bs i d, n) = get_or-zip bs ns i (d, n) h k ∙ (λ j. (get_or bs i d, sym e j)) in
    rw (take_more (zip bs ns) i (d, n) within, entry, flat_map-append)
    (ap (λ t. flat_map (length_entry sizes) (take i (zip bs ns)) ++ t) (append-nil (length_line sizes (get_or bs i d) n)))

pub lengths_all : (sizes : ℕ) (bs : List Buf) (ns : List Iexp) (i : ℕ) → min (length bs) (length ns) ≤ i
    → flat_map (length_entry sizes) (take i (zip bs ns)) ≡ length_lines sizes bs ns
lengths_all sizes bs ns i h = ap (flat_map (length_entry sizes)) (take_all i (zip bs ns) (omega (arith, length-zip bs ns)))
