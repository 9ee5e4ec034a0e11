-- Notes of one mention more, and of one less.
use Rattle.std.proofs.Common.{◌≡◌, ℕ, ◌+◌, ◌-◌, List, [], ◌∷◌, ◌++◌, length, take, Bool, true, false, cond, refl, sym, ap, ◌∙◌, arith, append-nil, length-append}
use Rattle.std.specs.Prelude.{nat_eq}
use Rattle.std.proofs.Math.Seq.{take-append_seam}
use Rattle.od_extraction.specs.declared.mention.Mention.{Mention}
use Rattle.od_mentions.specs.declared.notes.Notes.{Notes}
use Rattle.od_mentions.specs.declared.index.Index.{Index}
use Rattle.od_mentions.specs.Hashes.{mention_hash}
use Rattle.od_mentions.specs.Indexes.{IndexesOne, UnindexesOne, IsIndexOf, hash_by_sentence, hash_by_label}
use Rattle.od_mentions.specs.Notes.{noted, NotesOne, LosesOne, AreNotes}
use Rattle.od_mentions.specs.Places.{places_by}
use Rattle.od_mentions.proofs.Standing.{places-append}

more : (b : Bool) (ps : List ℕ) (k : ℕ) → cond b (ps ++ k ∷ []) ps ≡ ps ++ cond b (k ∷ []) []
more true ps k = refl
more false ps k = sym (append-nil ps)

less : (b : Bool) (xs ps : List ℕ) (k : ℕ) → xs ≡ ps ++ cond b (k ∷ []) [] → cond b (take (length xs - 1) xs) xs ≡ ps
less true xs ps k e =
    let long : length (ps ++ k ∷ []) - 1 ≡ length ps = omega (arith, length-append ps (k ∷ [])) in
    ap (λ ys. take (length ys - 1) ys) e ∙ ap (λ n. take n (ps ++ k ∷ [])) long ∙ take-append_seam ps (k ∷ [])
less false xs ps k e = e ∙ append-nil ps

module _ (hash : Mention → ℕ) (before after : Notes) (ms : List Mention) (m : Mention) where
  notes-more : NotesOne before after (hash m) (length ms) → AreNotes hash before ms → AreNotes hash after (ms ++ m ∷ [])
  notes-more says are h =
      let t : Mention → Bool = λ x. nat_eq (hash x) h in
      let place : length ms ≡ 0 + length ms = omega arith in
      says h
      ∙ ap (λ ps. cond (t m) (ps ++ length ms ∷ []) ps) (are h)
      ∙ more (t m) (places_by t 0 ms) (length ms)
      ∙ ap (λ k. places_by t 0 ms ++ cond (t m) (k ∷ []) []) place
      ∙ sym (places-append t 0 ms (m ∷ []))

  notes-less : LosesOne before after (hash m) → AreNotes hash before (ms ++ m ∷ []) → AreNotes hash after ms
  notes-less says are h =
      let t : Mention → Bool = λ x. nat_eq (hash x) h in
      says h ∙ less (t m) (noted before h) (places_by t 0 ms) (0 + length ms) (are h ∙ places-append t 0 ms (m ∷ []))

module _ (before after : Index) (ms : List Mention) (m : Mention) where
  pub index-more : IndexesOne before after m (length ms) → IsIndexOf before ms → IsIndexOf after (ms ++ m ∷ [])
  index-more one is = record {
    by_mention = notes-more mention_hash before.by_mention after.by_mention ms m one.by_mention is.by_mention;
    by_sentence = notes-more hash_by_sentence before.by_sentence after.by_sentence ms m one.by_sentence is.by_sentence;
    by_label = notes-more hash_by_label before.by_label after.by_label ms m one.by_label is.by_label;
  }

  pub index-less : UnindexesOne before after m → IsIndexOf before (ms ++ m ∷ []) → IsIndexOf after ms
  index-less one is = record {
    by_mention = notes-less mention_hash before.by_mention after.by_mention ms m one.by_mention is.by_mention;
    by_sentence = notes-less hash_by_sentence before.by_sentence after.by_sentence ms m one.by_sentence is.by_sentence;
    by_label = notes-less hash_by_label before.by_label after.by_label ms m one.by_label is.by_label;
  }
