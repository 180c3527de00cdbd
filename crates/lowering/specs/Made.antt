-- Which forms are within their limits.
use Rattle.std.specs.Prelude.{◌≡◌, ◌<◌, ◌≤◌, List, [], ◌∷◌, true, length, get_or, Option, Some, None, Ok, Err}
use Rattle.affine_index.specs.declared.form.Items.{Items}
use Rattle.reindexer.specs.Limited.{Answers, Limited}
use Rattle.reindexer.specs.Places.{limited_place}
use Rattle.reindexer.specs.Ready.{extents_ready}
use Rattle.region_plan.specs.Shaped.{IsShaped}
use Rattle.shape_rules.specs.Scopes.{all_free, given}
use Rattle.term_tree.specs.Shape.{Extents}
use Rattle.term_tree.specs.declared.term.Term.{Term, TVar}
use Rattle.term_tree.specs.Syntax.{index, guard, add, sub, mul}
use Rattle.final_rules.specs.declared.printing.Scene.{Scene}
use Rattle.final_rules.specs.declared.read.Read.{Read}
use Rattle.final_rules.specs.declared.spot.Spot.{Spot}
use Rattle.final_rules.specs.Form.{one_deeper, read_under}
use Rattle.final_rules.specs.Places.{frames_of, one_gen}
use Rattle.final_rules.specs.Printed.{Printed, behind, printed_of}
use Rattle.final_rules.specs.Printing.{sited}
use Rattle.lowering.specs.declared.node.Node.{Node}
use Rattle.lowering.specs.declared.node.Room.{Room}
use Rattle.lowering.specs.declared.node.Target.{Target}
use Rattle.lowering.specs.Nodes.{around_ready, place_of}

-- no limit is broken
abbrev pub IsMade : Limited Items → Type 0
IsMade (Ok x) = Unit {0}
IsMade (Err e) = ⊥

-- in none of the printed indices
abbrev pub AllMade : List Printed → Type 0
AllMade [] = Unit {0}
AllMade (i ∷ is) = IsMade i.form × AllMade is

-- a form is there, or memory did not suffice: no limit is broken on the way to it
abbrev pub HasForm : Limited Items → Type 0
HasForm form = (due : Limited Items) × Answers due form × IsMade due

-- a read is of a tensor in scope, whose extents hold no index variable, and its place breaks no limit
abbrev pub ReadMade : Scene → Read → Type 0
ReadMade sc d = (d.var < length (given sc.shapes)) × (extents_ready (get_or (given sc.shapes) d.var []) ≡ true) × IsMade (sited sc d.var d.indices)

abbrev pub ReadMadeIf : Scene → Option Read → Type 0
ReadMadeIf sc None = Unit {0}
ReadMadeIf sc (Some d) = ReadMade sc d

-- the reads of a word
abbrev pub WordMade : Scene → Term → Type 0
WordMade sc (TVar q) = ReadMadeIf sc (read_under (TVar q) [])
WordMade sc (index e x) = ReadMadeIf sc (read_under (index e x) [])
WordMade sc (guard c e) = WordMade sc e
WordMade sc (add a b) = WordMade sc a × WordMade sc b
WordMade sc (sub a b) = WordMade sc a × WordMade sc b
WordMade sc (mul a b) = WordMade sc a × WordMade sc b
WordMade sc _ = Unit {0}

-- the place at which a leaf is stored
abbrev pub StoreMade : Target → Spot → Type 0
StoreMade tg q = IsMade (behind tg.offset (limited_place (frames_of q) tg.extents))

-- the places of a read that is stored whole
abbrev pub FullReadMade : Scene → Target → Spot → Extents → Read → Type 0
FullReadMade sc tg q [] d = StoreMade tg q × ReadMade sc d
FullReadMade sc tg q (n ∷ ns) d = FullReadMade sc tg (one_gen n q) ns (one_deeper d)

abbrev pub FullReadMadeIf : Scene → Target → Spot → Extents → Option Read → Type 0
FullReadMadeIf sc tg q ns None = Unit {0}
FullReadMadeIf sc tg q ns (Some d) = FullReadMade sc tg q ns d

-- what a walk of a term takes: its parts have shapes, amounts and extents hold no index variable, and no printed index breaks a limit
pub record Ready (sc : Scene) (tg : Target) (r : Room) (nd : Node) (e : Term) : Type 0 where
  pub few : length nd.spot.path ≤ 2147483647
  pub shaped : IsShaped sc.shapes e
  pub free : all_free (given sc.shapes) ≡ true
  pub around : around_ready nd.spot.around ≡ true
  pub extents : extents_ready tg.extents ≡ true
  pub made : AllMade (printed_of e (place_of sc tg r nd))
