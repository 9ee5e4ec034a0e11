-- The worked cases are computed.
use Rattle.std.proofs.Common.{◌≡◌, ◌≤◌, ℕ, List, ◌∷◌, ◌++◌, length, refl, sym, subst, arith, codes, decimal}
use lib.Utf8.{encode}
use Rattle.std.specs.Str.{is_utf8, chars}
use Rattle.std.specs.Str.Lossy.{utf8_valid_len}
use Rattle.std.proofs.lemmas.Fmt.{decimal_digit}
use denote.Hole.Carrier.{hidden}
use Rattle.od_order.specs.declared.script.TheConstants.{SCRIPT_BYTES}
use Rattle.od_script.specs.Written.{script_bytes}
use Rattle.od_script.specs.WrittenCases.{two_clients, one_document, WrittenCases}

two : decimal 2 ≡ codes "2"
two = decimal_digit 2 (omega arith)

five : decimal 5 ≡ codes "5"
five = decimal_digit 5 (omega arith)

written : script_bytes two_clients ≡ codes "grammar g 2\n- name: a\n\nquery q dogs  bark\nclient\ndoc d 2\nclient\n" ++ 255 ∷ codes "\nopen s q 5\nclient\nresume s\nrun s\nsettle\n"
written = rw (two, five) refl

unended : script_bytes one_document ≡ codes "client\ndoc e 2\nx\ny"
unended = rw two refl

short : length (script_bytes two_clients) ≤ SCRIPT_BYTES
short = subst (λ (bytes : List ℕ). length bytes ≤ SCRIPT_BYTES) (sym written) (omega arith)

unended_short : length (script_bytes one_document) ≤ SCRIPT_BYTES
unended_short = subst (λ (bytes : List ℕ). length bytes ≤ SCRIPT_BYTES) (sym unended) (omega arith)

pub written_cases : WrittenCases
unfolding encode hidden is_utf8 chars utf8_valid_len
written_cases = record {
  written = written;
  writable = record {
    few = record { heads = omega arith; clients = omega arith; orders = omega arith; distinct = (refl, (refl, tt)) };
    heads = ((refl, refl), ((refl, refl), tt));
    orders = (((refl, refl), ((refl, refl), tt)), (((refl, refl), (refl, ((refl, refl), tt))), tt));
    apart = (rw two refl, (refl, (refl, (rw two refl, (rw five refl, (refl, (refl, (refl, tt))))))));
    short = short;
  };
  unended = unended;
  unended_writable = record {
    few = record { heads = omega arith; clients = omega arith; orders = omega arith; distinct = tt };
    heads = tt;
    orders = (((refl, refl), tt), tt);
    apart = (refl, tt);
    short = unended_short;
  };
}
