-- No value in a line has a float.
use Rattle.std.proofs.Common.{◌≡◌, ℕ, List, [], ◌∷◌, ◌++◌, map, Option, Some, None, Bool, true, false, ◌||◌, Ordering, Less, Equal, Greater, refl, ap, ◌∙◌}
use Rattle.std.specs.Ordering.{nat_cmp, match_ordering}
use Rattle.std.specs.Cmp.Lexicographic.{slice_cmp}
use Rattle.serde_json.specs.Data.{Data, Members, no_members, member, put}
use Rattle.serde_json.specs.View.{items_of}
use Rattle.serde_json.specs.Written.{has_float, items_have_float, members_have_float}
use Rattle.od_command.specs.declared.history.Reply.{Reply}
use Rattle.od_command.specs.declared.history.Reply.TheVariants.{Added, Opened, Stepped, Resumed, Printed, Released, Settled, Refused}
use Rattle.od_command.specs.declared.history.Refusal.{Refusal}
use Rattle.od_command.specs.declared.history.Refusal.TheVariants.{BadDoc, Duplicate, Full, NoGrammar, BadLimit, Taken, NoRoom, NoSession, Busy, NotHeld, Finished, AtLimit, Crowded, TooMany}
use Rattle.od_command.specs.declared.history.Entry.{Entry}
use Rattle.od_text.specs.Lists.{Each}
use Rattle.od_line.specs.Data.{count, with_members, object_of}
use Rattle.od_line.specs.Entries.{name_of, name_members, entry_members, refusal_members, reply_members}

-- the value of a member has no float
abbrev IsPlain : List ℕ × Data → Type 0
IsPlain m = has_float m.1 ≡ false

-- by the order of the key and the first key that is there
put_at : (o : Ordering) (k l : List ℕ) (d e : Data) (ms : Members) → has_float d ≡ false → has_float e ≡ false → members_have_float ms ≡ false → members_have_float (put k d ms) ≡ false
    → members_have_float (match_ordering o (member k d (member l e ms)) (member l d ms) (member l e (put k d ms))) ≡ false
put_at Less k l d e ms plain other rest more = rw (plain, other, rest)
put_at Equal k l d e ms plain other rest more = rw (plain, rest)
put_at Greater k l d e ms plain other rest more = rw (other, more)

left_plain : (a b : Bool) → (a || b) ≡ false → a ≡ false
left_plain true b h = h
left_plain false b h = refl

right_plain : (a b : Bool) → (a || b) ≡ false → b ≡ false
right_plain true b h = absurd cc
right_plain false b h = h

-- a member more, without a float
put_plain : (k : List ℕ) (d : Data) (ms : Members) → has_float d ≡ false → members_have_float ms ≡ false → members_have_float (put k d ms) ≡ false
put_plain k d no_members plain rest = rw plain
put_plain k d (member l e ms) plain rest =
    let other = right_plain (has_float e) (members_have_float ms) rest in
    put_at (slice_cmp nat_cmp k l) k l d e ms plain (left_plain (has_float e) (members_have_float ms) rest) other (put_plain k d ms plain other)

-- members more, without floats
with_members_plain : (ms : List (List ℕ × Data)) (old : Members) → Each IsPlain ms → members_have_float old ≡ false → members_have_float (with_members ms old) ≡ false
with_members_plain [] old each plain = plain
with_members_plain (m ∷ ms) old each plain = with_members_plain ms (put m.0 m.1 old) each.1 (put_plain m.0 m.1 old each.0 plain)

counts_plain : (sizes : List ℕ) → items_have_float (items_of (map count sizes)) ≡ false
counts_plain [] = refl
counts_plain (size ∷ sizes) = counts_plain sizes

name_plain : (name : Option (List ℕ)) → Each IsPlain (name_members name)
name_plain None = tt
name_plain (Some name) = (refl, tt)

refusal_plain : (refusal : Refusal) → Each IsPlain (refusal_members refusal)
refusal_plain (BadDoc line kind) = (refl, (refl, tt))
refusal_plain Duplicate = tt
refusal_plain (Full documents bytes) = (refl, (refl, tt))
refusal_plain NoGrammar = tt
refusal_plain (BadLimit limit) = (refl, tt)
refusal_plain Taken = tt
refusal_plain (NoRoom sessions) = (refl, tt)
refusal_plain NoSession = tt
refusal_plain (Busy owner) = (refl, tt)
refusal_plain NotHeld = tt
refusal_plain (Finished round) = (refl, tt)
refusal_plain (AtLimit round) = (refl, tt)
refusal_plain (Crowded rule document sentence found) = (refl, (refl, (refl, (refl, tt))))
refusal_plain (TooMany weight) = (refl, tt)

reply_plain : (reply : Reply) → Each IsPlain (reply_members reply)
reply_plain (Added documents) = (refl, tt)
reply_plain (Opened documents limit) = (refl, (refl, tt))
reply_plain (Stepped round added phase) = (refl, (refl, (refl, tt)))
reply_plain (Resumed documents limit round mentions phase) = (refl, (refl, (refl, (refl, (refl, tt)))))
reply_plain (Printed round mentions phase) = (refl, (refl, (refl, tt)))
reply_plain Released = tt
reply_plain (Settled sizes) = (counts_plain sizes, tt)
reply_plain (Refused refusal) = refusal_plain refusal

-- members after members are those of both lists
pub with_members-append : (ms more : List (List ℕ × Data)) (old : Members) → with_members (ms ++ more) old ≡ with_members more (with_members ms old)
with_members-append [] more old = refl
with_members-append (m ∷ ms) more old = with_members-append ms more (put m.0 m.1 old)

-- the object of an entry has no float
pub entry_plain : (e : Entry) → has_float (object_of (entry_members e ++ reply_members e.reply)) ≡ false
entry_plain e =
    let head = with_members_plain (entry_members e) no_members (refl, (refl, (refl, (refl, name_plain (name_of e.command))))) refl in
    ap members_have_float (with_members-append (entry_members e) (reply_members e.reply) no_members)
    ∙ with_members_plain (reply_members e.reply) (with_members (entry_members e) no_members) (reply_plain e.reply) head
