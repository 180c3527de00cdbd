use Rattle.std.proofs.Common.{◌≡◌, ◌++◌, ◌&&◌, true, false, drop, map}
use Rattle.affine_index.specs.Normal.{coefficients_fit, is_short}
use Rattle.term_tree.specs.Limits.{each_cmp}
use Rattle.binders.specs.Answers.{form_beyond, form_causes}
use Rattle.binders.specs.Maps.{put_cmp}
use Rattle.binders.specs.Uses.{any_cmp}
use Rattle.binders.specs.declared.refusal.MapRefusal.{MapRefusal}
use Rattle.binders.proofs.replacement.put_cond.Given as goal

abbrev pub invariant-loop-cmp : goal.invariant-loop-cmp
invariant-loop-cmp g l =
    let f = put_cmp ((g.M.VarMap.meaning l.map).for_index l.depths.index l.depths.tensor) in
    record {
      within : any_cmp (form_beyond (g.M.VarMap.reach l.map) l.depths.index l.depths.tensor) (drop l.cmp-index l.cmp-items) ≡ false;
      causes : (e : MapRefusal)
          → any_cmp (form_causes (g.M.VarMap.meaning l.map) (g.M.VarMap.refusals l.map) e l.depths.index l.depths.tensor) (drop l.cmp-index l.cmp-items) ≡ true
          → any_cmp (form_causes (g.M.VarMap.meaning l.map) (g.M.VarMap.refusals l.map) e l.depths.index l.depths.tensor) l.cmp-items ≡ true;
      fits : each_cmp coefficients_fit (map f (drop l.cmp-index l.cmp-items)) ≡ each_cmp coefficients_fit (map f l.cmp-items);
      short : (l.short && each_cmp is_short (map f (drop l.cmp-index l.cmp-items))) ≡ each_cmp is_short (map f l.cmp-items);
      all : l.short ≡ true → l.all ++ map f (drop l.cmp-index l.cmp-items) ≡ map f l.cmp-items;
    }
