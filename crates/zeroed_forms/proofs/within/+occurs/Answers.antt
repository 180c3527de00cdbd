use Rattle.std.proofs.Common.{rules}
use Rattle.affine_index.specs.declared.form.Atom.TheViews.{the_lemmas}
use Rattle.zeroed_forms.proofs.within.+occurs.Goals as goal

pub atom_has-items_have-requires : goal.atom_has-items_have-requires
atom_has-items_have-requires t c = search (rules, the_lemmas)

pub atom_has-atoms_have-requires : goal.atom_has-atoms_have-requires
atom_has-atoms_have-requires t c = search (rules, the_lemmas)

pub atoms_have-atom_has-requires : goal.atoms_have-atom_has-requires
atoms_have-atom_has-requires t c = search (rules, the_lemmas)

pub items_have-terms_have-requires : goal.items_have-terms_have-requires
items_have-terms_have-requires t c = search (rules, the_lemmas)

pub terms_have-atom_has-requires : goal.terms_have-atom_has-requires
terms_have-atom_has-requires t c = search (rules, the_lemmas)
