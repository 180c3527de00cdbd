-- A whole text of a version: what is read is its module, the other way round, and where a fault stands.
use Rattle.std.proofs.Common.{◌≡◌, ℕ, false, Ok, Err, refl}
use Rattle.text_tokens.specs.declared.kind.Kind.TheVariants as k
use Rattle.text_tokens.specs.Kinds.{Text, same_kind}
use Rattle.text_tokens.specs.Words.{words_of}
use Rattle.term_tree.specs.declared.term.Module.{Module}
use Rattle.reader_laws.specs.declared.fault.ReadError.{ReadError}
use Rattle.reader_laws.specs.Steps.{read_whole}
use Rattle.reader_laws.specs.Grammar.{IsRefused}
use Rattle.reader_laws.proofs.Whole.{whole_found, whole_read, whole_refused}
use Rattle.source_grammar.specs.Source.{IsSource, language}
use Rattle.source_grammar.specs.ReadSource.{source}
use Rattle.source_grammar.proofs.SourceLaws.{on, lawful_source}

no_end : on k.Output k.End ≡ false
unfolding same_kind
no_end = refl

pub source_found : (version : ℕ) (z : Text) (m : Module) → read_whole (language version) (source version) z ≡ Ok m
    → IsSource version (words_of (language version) z) m
source_found version z m h = whole_found (language version) (source version) (IsSource version) (on k.Output) (lawful_source version) no_end z m h

pub source_read : (version : ℕ) (z : Text) (m : Module) → IsSource version (words_of (language version) z) m
    → read_whole (language version) (source version) z ≡ Ok m
source_read version z m h = whole_read (language version) (source version) (IsSource version) (on k.Output) (lawful_source version) no_end z m h

pub source_refused : (version : ℕ) (z : Text) (e : ReadError) → read_whole (language version) (source version) z ≡ Err e
    → IsRefused (language version) (IsSource version) z e
source_refused version z e h = whole_refused (language version) (source version) (IsSource version) (on k.Output) (lawful_source version) no_end z e h
