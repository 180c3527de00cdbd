-- The tokens of a source stand apart, or may touch.
use Rattle.std.proofs.Common.{◌≡◌, inl, inr, List, [], ◌∷◌, ◌++◌, Bool, true, false, ◌&&◌, ◌||◌, not, if◌then◌else◌, refl, ap, ◌∙◌}
use Rattle.text_tokens.specs.declared.kind.Kind.{Kind}
use Rattle.text_tokens.specs.declared.kind.Kind.TheVariants as k
use Rattle.text_tokens.specs.declared.kind.Language.{Language}
use Rattle.text_tokens.specs.Kinds.{Text}
use Rattle.text_tokens.specs.Spelled.{Token, closes, is_function, is_opening, opens, sign, source_gap, space_behind}
use Rattle.text_tokens.proofs.Lexed.{AreParted, AreTokens, IsGap, IsToken, MayFollow, is_sign, may_grow, touches}
use Rattle.text_tokens.proofs.SourceWords.{IsSourceLanguage, sign_is}

-- ---- what stands between two tokens of a source

pub source_blank : (a b : Kind) → IsGap (source_gap a b)
source_blank a b = by (opens a || closes b || (is_function a && is_opening b))
  where
    space : (a : Kind) → IsGap (space_behind a)
    space k.Semi = (inr refl, tt)
    space kd = (inl refl, tt)

    by : (c : Bool) → IsGap (if c then [] else space_behind a)
    by true = tt
    by false = space a

opens-sign : (a : Kind) → opens a ≡ true → (is_sign a && not (may_grow a)) ≡ true
opens-sign k.LParen h = refl
opens-sign k.LBracket h = refl
opens-sign k.DotDot h = refl
opens-sign a h = absurd (cc)

closes-sign : (b : Kind) → closes b ≡ true → is_sign b ≡ true
closes-sign k.Semi h = refl
closes-sign k.Comma h = refl
closes-sign k.Dot h = refl
closes-sign k.DotDot h = refl
closes-sign k.LBracket h = refl
closes-sign k.RBracket h = refl
closes-sign k.RParen h = refl
closes-sign b h = absurd (cc)

function-none : (a : Kind) → is_function a ≡ true → is_sign a ≡ false
function-none k.Concat h = refl
function-none k.Flatten h = refl
function-none k.Split h = refl
function-none k.Transpose h = refl
function-none k.TruncL h = refl
function-none k.TruncR h = refl
function-none k.PadL h = refl
function-none k.PadR h = refl
function-none k.Word h = refl
function-none a h = absurd (cc)

opening-sign : (b : Kind) → is_opening b ≡ true → is_sign b ≡ true
opening-sign k.LParen h = refl
opening-sign b h = absurd (cc)

-- something stands between two tokens, or they may touch
abbrev pub MayGo : Text → Kind → Kind → Type 0
MayGo [] a b = touches a b ≡ true
MayGo (c ∷ cs) a b = Unit {0}

touch_closing : (s g t : Bool) → t ≡ true → (g && true) ≡ false → ((s && not g) || (not s && t)) ≡ true
touch_closing true true t h e = absurd (cc)
touch_closing true false t h e = refl
touch_closing false g t h e = h

-- a sign that a further character would make longer stands before no token that closes
pub may-follow : (a b : Kind) → (may_grow a && closes b) ≡ false → MayGo (source_gap a b) a b
may-follow a b h = by (opens a) (closes b) (is_function a) (is_opening b) refl refl refl refl h
  where
    behind : (a : Kind) → MayGo (space_behind a) a b
    behind k.Semi = tt
    behind a = tt

    by : (o c f p : Bool) → opens a ≡ o → closes b ≡ c → is_function a ≡ f → is_opening b ≡ p → (may_grow a && c) ≡ false
        → MayGo (if o || c || (f && p) then [] else space_behind a) a b
    by true c f p e g i j h = ap (λ z. z || (not (is_sign a) && is_sign b)) (opens-sign a e)
    by false true f p e g i j h = touch_closing (is_sign a) (may_grow a) (is_sign b) (closes-sign b g) h
    by false false true true e g i j h = (λ n. (function-none a i n && not (may_grow a)) || (not (function-none a i n) && opening-sign b j n))
    by false false true false e g i j h = behind a
    by false false false p e g i j h = behind a

module _ (language : Language) where
  -- tokens behind one of this kind
  abbrev pub Linked : Kind → List Token → Type 0
  Linked a [] = may_grow a ≡ false
  Linked a (t ∷ ts) = IsToken language t × ((may_grow a && closes t.kind) ≡ false) × Linked t.kind ts

  -- tokens the first of which does not close, and the last of which does not grow
  abbrev pub Solid : List Token → Type 0
  Solid [] = ⊥
  Solid (t ∷ ts) = (closes t.kind ≡ false) × IsToken language t × Linked t.kind ts

  -- tokens that may stand behind any that does not grow
  abbrev pub Follows : List Token → Type 0
  Follows ts = (b : Kind) → may_grow b ≡ false → Linked b ts

  and_false : (b : Bool) → (b && false) ≡ false
  and_false true = refl
  and_false false = refl

  pub onto : (a : Kind) (xs ys : List Token) → Linked a xs → Follows ys → Linked a (xs ++ ys)
  onto a [] ys h f = f a h
  onto a (x ∷ xs) ys h f = (h.0, h.1, onto x.kind xs ys h.2 f)

  pub after_any : (a : Kind) (ts : List Token) → Solid ts → Linked a ts
  after_any a [] h = absurd h
  after_any a (t ∷ ts) h = (h.1, ap (λ b. may_grow a && b) h.0 ∙ and_false (may_grow a), h.2)

  pub solid_then : (xs ys : List Token) → Solid xs → Follows ys → Solid (xs ++ ys)
  solid_then [] ys h f = absurd h
  solid_then (x ∷ xs) ys h f = (h.0, h.1, onto x.kind xs ys h.2 f)

  pub follows_nil : Follows []
  follows_nil b h = h

  pub follows : (t : Token) (ts : List Token) → IsToken language t → Linked t.kind ts → Follows (t ∷ ts)
  follows t ts is h b e = (is, ap (λ z. z && closes t.kind) e, h)

  pub follows_solid : (ts : List Token) → Solid ts → Follows ts
  follows_solid ts h b e = after_any b ts h

  -- what is linked is cut again
  pub linked-tokens : (a : Kind) (ts : List Token) → Linked a ts → AreTokens language ts
  linked-tokens a [] h = tt
  linked-tokens a (t ∷ ts) h = (h.0, linked-tokens t.kind ts h.2)

  parted_is : (g : Text) (a b : Kind) → MayGo g a b → MayFollow language source_gap source_blank g a b
  parted_is [] a b h = h
  parted_is (c ∷ cs) a b h = tt

  pub linked-parted : (t : Token) (ts : List Token) → Linked t.kind ts → AreParted language source_gap source_blank (t ∷ ts)
  linked-parted t [] h = tt
  linked-parted t (u ∷ us) h = (parted_is (source_gap t.kind u.kind) t.kind u.kind (may-follow t.kind u.kind h.1), linked-parted u us h.2)

module _ (language : Language) (source : IsSourceLanguage language) where
  abbrev Fine : List Token → Type 0
  Fine = Solid language

  abbrev GoesOn : List Token → Type 0
  GoesOn = Follows language

  -- a token alone
  pub solid_one : (t : Token) → closes t.kind ≡ false → may_grow t.kind ≡ false → IsToken language t → Fine (t ∷ [])
  solid_one t c g is = (c, is, g)

  pub solid_lead : (t : Token) (ts : List Token) → closes t.kind ≡ false → IsToken language t → Fine ts → Fine (t ∷ ts)
  solid_lead t ts c is h = (c, is, after_any language t.kind ts h)

  -- tokens, a token, and further tokens
  pub solid_between : (xs : List Token) (t : Token) (ys : List Token) → Fine xs → IsToken language t → Fine ys → Fine (xs ++ t ∷ ys)
  solid_between xs t ys h is g = solid_then language xs (t ∷ ys) h (follows language t ys is (after_any language t.kind ys g))

  -- tokens, and one that closes
  pub solid_closed : (xs : List Token) (t : Token) → Fine xs → IsToken language t → may_grow t.kind ≡ false → Fine (xs ++ t ∷ [])
  solid_closed xs t h is g = solid_then language xs (t ∷ []) h (follows language t [] is g)

  open_token : IsToken language (sign k.LParen)
  open_token = sign_is language source k.LParen refl refl

  close_token : IsToken language (sign k.RParen)
  close_token = sign_is language source k.RParen refl refl

  pub solid_parens : (ts : List Token) → Fine ts → Fine (sign k.LParen ∷ ts ++ sign k.RParen ∷ [])
  solid_parens ts h = solid_lead (sign k.LParen) (ts ++ sign k.RParen ∷ []) refl open_token (solid_closed ts (sign k.RParen) h close_token refl)
