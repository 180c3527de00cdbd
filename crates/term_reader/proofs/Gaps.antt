-- There is room for `a - b - 1`, and it is in order.
use Rattle.std.proofs.Common.{◌≡◌, ◌+◌, ◌*◌, ◌^◌, ◌<◌, true, ap, ◌∙◌, arith}
use Rattle.std.specs.Prelude.{pos, negsuc}
use Rattle.std.specs.Int.RustNames.{unsigned_abs}
use Rattle.affine_index.specs.Form.{literal_form}
use Rattle.affine_index.specs.Normal.{is_normal, is_ordered}
use Rattle.affine_index.specs.Sum.{difference_of, scaled}
use Rattle.affine_index.specs.Wide.{norm}
use Rattle.affine_index.specs.declared.form.Items.{Items}
use Rattle.affine_index.proofs.ArithmeticLaws.{difference-room, minus-room, normal-ordered}
use Rattle.affine_index.proofs.NormLaws.{scaled-norm, sum-norm}
use Rattle.affine_index.proofs.OrderedLaws.{difference-ordered, literal-ordered}
use Rattle.affine_index.proofs.PutNorm.{normal-norm}
use Rattle.term_reader.specs.Steps.{gap_of}

pub minus_room : (b y : Items) → y ≡ b → is_normal b ≡ true → unsigned_abs (negsuc 0) * norm y < 2 ^ 127
minus_room b y f q = minus-room b y f q

pub difference_room : (a b x y : Items) → x ≡ a → y ≡ scaled (negsuc 0) b → is_normal a ≡ true → is_normal b ≡ true → norm x + norm y < 2 ^ 127
difference_room a b x y e f p q = difference-room a b x y e f p q

pub gap_room : (a b x y one : Items) → x ≡ difference_of a b → y ≡ scaled (negsuc 0) one → one ≡ literal_form (pos 1) → is_normal a ≡ true → is_normal b ≡ true
    → norm x + norm y < 2 ^ 127
gap_room a b x y one e f g p q =
    let small : norm (literal_form (pos 1)) < 2 = omega arith in
    omega (
      arith,
      ap norm e,
      ap norm f,
      ap norm g,
      sum-norm a (scaled (negsuc 0) b),
      scaled-norm (negsuc 0) b,
      normal-norm a p,
      normal-norm b q,
      scaled-norm
          (negsuc 0) one,
      small,
    )

pub gap_ordered : (a b x : Items) → x ≡ gap_of a b → is_normal a ≡ true → is_normal b ≡ true → is_ordered x ≡ true
gap_ordered a b x e p q =
    ap is_ordered e ∙ difference-ordered (difference_of a b) (literal_form (pos 1)) (difference-ordered a b (normal-ordered a p) (normal-ordered b q))
    (literal-ordered (pos 1))
