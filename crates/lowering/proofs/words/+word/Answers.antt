use Rattle.std.proofs.Common.{◌≡◌, IfOk, inl, inr, subst}
use Rattle.loop_lang.specs.declared.word.Wexp.{Wexp}
use Rattle.lowering.specs.Words.{word_in}
use Rattle.lowering.proofs.WordForms.{add-word, falls, guard-less, guard-made, guard-word, mul-word, read-made, sub-word, two-less, two-made}
use Rattle.lowering.proofs.words.+word.Goals as goal

pub word-chosen-requires : goal.word-chosen-requires
word-chosen-requires t c = (
  falls c.decreases (guard-less c.args.term.now c.in-Guard.cond c.in-Guard.part c.get.result.now c.get.ensures c.in-Guard.is),
  guard-made c.args.scene.now c.args.term.now c.in-Guard.cond c.in-Guard.part c.get.result.now c.get.ensures c.in-Guard.is c.requires,
)

pub word-two_words-requires : goal.word-two_words-requires
word-two_words-requires t c =
    let p = two-made c.args.scene.now c.args.term.now c.in-Add.a c.in-Add.b c.get-in-Add.result.now c.get-in-Add-2.result.now c.get-in-Add.ensures
    c.get-in-Add-2.ensures (inl c.in-Add.is) c.requires in (
      falls c.decreases (two-less c.args.term.now c.in-Add.a c.in-Add.b c.get-in-Add.result.now c.get-in-Add-2.result.now c.get-in-Add.ensures
          c.get-in-Add-2.ensures (inl c.in-Add.is)),
      (p.0, p.1),
    )

pub word-two_words-requires-in-Sub : goal.word-two_words-requires-in-Sub
word-two_words-requires-in-Sub t c =
    let p = two-made c.args.scene.now c.args.term.now c.in-Sub.a c.in-Sub.b c.get-in-Sub.result.now c.get-in-Sub-2.result.now c.get-in-Sub.ensures
    c.get-in-Sub-2.ensures (inr (inl c.in-Sub.is)) c.requires in (
      falls c.decreases (two-less c.args.term.now c.in-Sub.a c.in-Sub.b c.get-in-Sub.result.now c.get-in-Sub-2.result.now c.get-in-Sub.ensures
          c.get-in-Sub-2.ensures (inr (inl c.in-Sub.is))),
      (p.0, p.1),
    )

pub word-two_words-requires-in-Mul : goal.word-two_words-requires-in-Mul
word-two_words-requires-in-Mul t c =
    let p = two-made c.args.scene.now c.args.term.now c.in-Mul.a c.in-Mul.b c.get-in-Mul.result.now c.get-in-Mul-2.result.now c.get-in-Mul.ensures
    c.get-in-Mul-2.ensures (inr (inr c.in-Mul.is)) c.requires in (
      falls c.decreases (two-less c.args.term.now c.in-Mul.a c.in-Mul.b c.get-in-Mul.result.now c.get-in-Mul-2.result.now c.get-in-Mul.ensures
          c.get-in-Mul-2.ensures (inr (inr c.in-Mul.is))),
      (p.0, p.1),
    )

pub word-read_word-requires : goal.word-read_word-requires
word-read_word-requires t c = read-made c.args.scene.now c.args.term.now c.in-TVar.is c.requires

pub word-returns-in-Guard : goal.word-returns-in-Guard
word-returns-in-Guard t c =
    subst (λ (v : Wexp). IfOk c.chosen.result (λ w. w ≡ v))
    (guard-word c.args.scene.now c.args.loops c.args.term.now c.in-Guard.cond c.in-Guard.part c.get.result.now c.get.ensures c.in-Guard.is) c.chosen.ensures

pub word-returns-in-Add : goal.word-returns-in-Add
word-returns-in-Add t c =
    let a = c.get-in-Add.result.now in
    let b = c.get-in-Add-2.result.now in
    subst (λ (v : Wexp). IfOk c.joint_word.result (λ w. w ≡ v))
    (add-word c.args.scene.now c.args.loops c.args.term.now c.in-Add.a c.in-Add.b a b c.get-in-Add.ensures c.get-in-Add-2.ensures c.in-Add.is)
    (c.joint_word.ensures (word_in c.args.scene.now c.args.loops a) (word_in c.args.scene.now c.args.loops b) c.two_words.ensures)

pub word-returns-in-Sub : goal.word-returns-in-Sub
word-returns-in-Sub t c =
    let a = c.get-in-Sub.result.now in
    let b = c.get-in-Sub-2.result.now in
    subst (λ (v : Wexp). IfOk c.joint_word-in-Sub.result (λ w. w ≡ v))
    (sub-word c.args.scene.now c.args.loops c.args.term.now c.in-Sub.a c.in-Sub.b a b c.get-in-Sub.ensures c.get-in-Sub-2.ensures c.in-Sub.is)
    (c.joint_word-in-Sub.ensures (word_in c.args.scene.now c.args.loops a) (word_in c.args.scene.now c.args.loops b) c.two_words-in-Sub.ensures)

pub word-returns-in-Mul : goal.word-returns-in-Mul
word-returns-in-Mul t c =
    let a = c.get-in-Mul.result.now in
    let b = c.get-in-Mul-2.result.now in
    subst (λ (v : Wexp). IfOk c.joint_word-in-Mul.result (λ w. w ≡ v))
    (mul-word c.args.scene.now c.args.loops c.args.term.now c.in-Mul.a c.in-Mul.b a b c.get-in-Mul.ensures c.get-in-Mul-2.ensures c.in-Mul.is)
    (c.joint_word-in-Mul.ensures (word_in c.args.scene.now c.args.loops a) (word_in c.args.scene.now c.args.loops b) c.two_words-in-Mul.ensures)
