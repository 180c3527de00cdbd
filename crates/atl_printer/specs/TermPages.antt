-- Terms, written on a page. The numbers of variables and lets stop at the largest of 32 bits, which no printable term reaches.
use Rattle.std.specs.Prelude.{ℕ, ◌+◌, min, Bool, true, false, List, codes}
use Rattle.text_tokens.specs.declared.kind.Kind.{Kind}
use Rattle.text_tokens.specs.declared.kind.Kind.TheVariants as k
use Rattle.text_tokens.specs.Kinds.{Text}
use Rattle.affine_index.specs.declared.aff.Aff.{Aff}
use Rattle.affine_index.specs.declared.cond.Cond.{Cond}
use Rattle.term_tree.specs.declared.term.SizeDecl.{SizeDecl}
use Rattle.term_tree.specs.declared.term.InputDecl.{InputDecl}
use Rattle.term_tree.specs.declared.term.Term.{Term}
use Rattle.term_tree.specs.declared.term.Term.TheOpen.{Term-F}
use Rattle.term_tree.specs.declared.term.Term.TheFolds.{fold-Term}
use Rattle.atl_printer.specs.Canonical.{name_of}
use Rattle.source_grammar.specs.Source.{input_names}
use Rattle.text_tokens.specs.Spelled.{name_token, number_token, sign, keyword}
use Rattle.atl_printer.specs.TermTokens.{let_text, tensor_text, var_text}
use Rattle.atl_printer.specs.declared.term.TermPlace.{TermPlace}
use Rattle.atl_printer.specs.declared.term.TermPlace.TheVariants as at
use Rattle.atl_printer.specs.FormPages.{all_pages, form_pages}
use Rattle.atl_printer.specs.IndexPages.{closed, opened, size_text}
use Rattle.atl_printer.specs.Page.{Page, written}

-- whether a form that binds, a sum or a product stands in parentheses here
abbrev pub binder_open : TermPlace → Bool
binder_open at.Whole = false
binder_open place = true

abbrev pub sum_open : TermPlace → Bool
sum_open at.Product = true
sum_open at.Factor = true
sum_open place = false

abbrev pub product_open : TermPlace → Bool
product_open at.Factor = true
product_open place = false

-- one more, as far as 32 bits go
abbrev pub next : ℕ → ℕ
next n = min (n + 1) 4294967295

-- how a term is written in a place, under so many variables and lets
abbrev pub Writes : Type 0
Writes = TermPlace → ℕ → ℕ → Page → Page

abbrev pub let_head : ℕ → Page → Page
let_head lets p = written (sign k.Assign) (written (name_token (let_text lets)) (written (keyword k.Let) p))

abbrev pub call_head : Kind → Text → Page → Page
call_head kd text p = written (sign k.LParen) (written (record { kind = kd; text = text }) p)

abbrev pub split_head : ℕ → Page → Page
split_head d p = written (sign k.Comma) (written (number_token d) (call_head k.Split (codes "split") p))

module _ (sizes : List SizeDecl) where
  -- `gen` or `sum`, the variable, the extent
  abbrev pub loop_head : Kind → Text → ℕ → Aff → Page → Page
  loop_head kd text vars n p = written (sign k.Dot) (form_pages sizes 0 n
      (written (sign k.Less) (written (name_token (var_text vars)) (written (record { kind = kd; text = text }) p))))

  abbrev pub guard_head : Cond → ℕ → Page → Page
  guard_head c vars p = written (sign k.Dot) (all_pages sizes vars c.all (written (keyword k.Guard) p))

  abbrev pub trim_head : Kind → Text → Aff → Page → Page
  trim_head kd text n p = written (sign k.Comma) (form_pages sizes 0 n (call_head kd text p))

  abbrev pub bracketed : ℕ → Aff → Page → Page
  bracketed vars x p = written (sign k.RBracket) (form_pages sizes vars x (written (sign k.LBracket) p))

module _ (sizes : List SizeDecl) (inputs : List InputDecl) where
  abbrev pub tensor_name : ℕ → ℕ → Text
  tensor_name lets q = tensor_text (size_text sizes) (name_of (input_names inputs)) lets q

  abbrev pub term_step : Term-F Writes → Writes
  term_step (Term-F.Lit w) place vars lets p = written (number_token w) p
  term_step (Term-F.TVar q) place vars lets p = written (name_token (tensor_name lets q)) p
  term_step (Term-F.WordOf x) place vars lets p = written (sign k.RParen) (form_pages sizes vars x (call_head k.Word (codes "word") p))
  term_step (Term-F.Index e x) place vars lets p = bracketed sizes vars x (e at.Factor vars lets p)
  term_step (Term-F.Gen n e) place vars lets p = closed (binder_open place)
      (e at.Whole (next vars) lets (loop_head sizes k.Gen (codes "gen") vars n (opened (binder_open place) p)))
  term_step (Term-F.Sum n e) place vars lets p = closed (binder_open place)
      (e at.Whole (next vars) lets (loop_head sizes k.Sum (codes "sum") vars n (opened (binder_open place) p)))
  term_step (Term-F.Guard c e) place vars lets p = closed (binder_open place) (e at.Whole vars lets (guard_head sizes c vars (opened (binder_open place) p)))
  term_step (Term-F.Let a e) place vars lets p =
      closed (binder_open place) (e at.Whole vars (next lets) (written (keyword k.In) (a at.Whole vars lets (let_head lets (opened (binder_open place) p)))))
  term_step (Term-F.Add a e) place vars lets p = closed (sum_open place)
      (e at.Product vars lets (written (sign k.Plus) (a at.Sum vars lets (opened (sum_open place) p))))
  term_step (Term-F.Sub a e) place vars lets p = closed (sum_open place)
      (e at.Product vars lets (written (sign k.Minus) (a at.Sum vars lets (opened (sum_open place) p))))
  term_step (Term-F.Mul a e) place vars lets p = closed (product_open place)
      (e at.Factor vars lets (written (sign k.Star) (a at.Product vars lets (opened (product_open place) p))))
  term_step (Term-F.Concat a e) place vars lets p = closed true
      (e at.Whole vars lets (written (sign k.Comma) (a at.Whole vars lets (call_head k.Concat (codes "concat") p))))
  term_step (Term-F.Flatten e) place vars lets p = closed true (e at.Whole vars lets (call_head k.Flatten (codes "flatten") p))
  term_step (Term-F.Split d e) place vars lets p = closed true (e at.Whole vars lets (split_head d p))
  term_step (Term-F.Transpose e) place vars lets p = closed true (e at.Whole vars lets (call_head k.Transpose (codes "transpose") p))
  term_step (Term-F.TruncL n e) place vars lets p = closed true (e at.Whole vars lets (trim_head sizes k.TruncL (codes "truncl") n p))
  term_step (Term-F.TruncR n e) place vars lets p = closed true (e at.Whole vars lets (trim_head sizes k.TruncR (codes "truncr") n p))
  term_step (Term-F.PadL n e) place vars lets p = closed true (e at.Whole vars lets (trim_head sizes k.PadL (codes "padl") n p))
  term_step (Term-F.PadR n e) place vars lets p = closed true (e at.Whole vars lets (trim_head sizes k.PadR (codes "padr") n p))

  -- a term written in a place
  abbrev pub term_pages : Term → Writes
  term_pages = fold-Term Writes term_step
