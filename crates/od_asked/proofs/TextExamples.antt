-- Regular expressions on short texts, worked out.
use Rattle.std.proofs.Common.{◌≡◌, codes, refl}
use Rattle.std.specs.Prelude.{true, false}
use Rattle.std.specs.Str.{chars}
use Rattle.std.specs.Char.{encode_utf8}
use Rattle.regex.proofs.OnLiterals.{regex_on_literals}
use Rattle.regex_hir.specs.Looks.{holds, holds_between}
use Rattle.regex_hir.specs.Text.{byte_before, has_bytes_at, char_at, is_boundary}
use Rattle.regex_hir.specs.Re.{rounds, attempt}
use Rattle.regex_hir.specs.Meaning.{repeat}
use Rattle.regex_hir.specs.Find.{first_from, find_str}
use Rattle.od_asked.specs.Texts.{regex_holds}

-- what computes an expression without classes on a text
unfoldable pub computing : Unit {0}
unfolding regex_holds regex_on_literals holds holds_between attempt rounds repeat first_from find_str byte_before has_bytes_at char_at is_boundary chars encode_utf8
computing = tt

-- `VBD?` fits VBD and VB, and neither a longer nor another text
with_more : regex_holds (codes "VBD?") (codes "VBD") ≡ true
unfolding computing
with_more = refl

without : regex_holds (codes "VBD?") (codes "VB") ≡ true
unfolding computing
without = refl

longer : regex_holds (codes "VBD?") (codes "VBDX") ≡ false
unfolding computing
longer = refl

later : regex_holds (codes "VBD?") (codes "XVB") ≡ false
unfolding computing
later = refl

-- `zeb(ra|u)s*` fits zebras and zebu, and not zebs
zebras : regex_holds (codes "zeb(ra|u)s*") (codes "zebras") ≡ true
unfolding computing
zebras = refl

zebu : regex_holds (codes "zeb(ra|u)s*") (codes "zebu") ≡ true
unfolding computing
zebu = refl

zebs : regex_holds (codes "zeb(ra|u)s*") (codes "zebs") ≡ false
unfolding computing
zebs = refl

-- `a|ab` fits ab: the whole text decides, and not the first alternative
whole_text : regex_holds (codes "a|ab") (codes "ab") ≡ true
unfolding computing
whole_text = refl

-- `a)|(b` stands between the assertions as it is: it fits what begins with a, and what ends with b
begins_so : regex_holds (codes "a)|(b") (codes "ax") ≡ true
unfolding computing
begins_so = refl

ends_so : regex_holds (codes "a)|(b") (codes "xb") ≡ true
unfolding computing
ends_so = refl

-- `(` is no expression, and fits nothing
broken : regex_holds (codes "(") (codes "(") ≡ false
unfolding computing
broken = refl
