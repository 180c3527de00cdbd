use Rattle.std.proofs.Common.{subst}
use Rattle.affine_index.specs.declared.form.Items.{Items}
use Rattle.rules_shape_tensor.specs.Formed.{IsFormed, IsJoined}
use Rattle.rules_shape_tensor.specs.declared.formed.FormDraft.{FormDraft}
use Rattle.rules_shape_tensor.proofs.FormedLaws.{form_large}
use Rattle.rules_shape_tensor.proofs.formed.joined.Goals as goal

pub returns-in-Within : goal.returns-in-Within
returns-in-Within c = λ x e f h.
    subst (λ (y : Items). IsJoined y e c.beside.result) (subst (λ (d : FormDraft). IsFormed x d) c.in-Within.is f) (c.beside.ensures e h)

pub returns-in-TooLarge : goal.returns-in-TooLarge
returns-in-TooLarge c = λ x e f h node w. form_large x e node w (subst (λ (d : FormDraft). IsFormed x d) c.in-TooLarge.is f)

pub returns-in-TooLong : goal.returns-in-TooLong
returns-in-TooLong c = λ x e f h. c.beside_long.ensures x e (subst (λ (d : FormDraft). IsFormed x d) c.in-TooLong.is f) h
