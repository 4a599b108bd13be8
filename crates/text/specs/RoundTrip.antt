-- Reading the shown text gives back the same sheet, from call to call.
use Rattle.std.specs.Prelude.{◌≡◌, cond, List, ℕ, ltb, length, take, drop, Result, Ok, Err}
use Rattle.std.proofs.Common.{sym, ap, ap₂, ◌∙◌, arith, take_at, le-ltb}
use Rattle.answers.specs.Answers.{given, fine, when, also}
use Rattle.answers.specs.AnswerLaws.{also_given}
use Rattle.bits.specs.Bytes.{Bytes as AreBytes}
use Rattle.sheet.specs.declared.Sheet.{Sheet}
use Rattle.sheet.specs.Calls.{judge_of, RanksFit, cleared, read_of}
use Rattle.sheet.specs.Promises.{ReadPromise}
use Rattle.sheet.specs.EncodedLaws.{encoded_read, read_encoded, read_judged}
use Rattle.sheet.specs.SoundLaws.{judged_sound}
use Rattle.text.specs.declared.Fault.{Fault}
use Rattle.text.specs.declared.Wrong.TheVariants.{TooLong}
use Rattle.text.specs.Shown.{text_of}
use Rattle.text.specs.Run.{faulty, located, settled, parse_of}
use Rattle.text.specs.Calls.{show_of}
use Rattle.text.specs.Promises.{ShowPromise, ParsePromise}
use Rattle.text.specs.SizeLaws.{text_short}
use Rattle.text.specs.ReadBack.{read_back}

-- what was shown is judged fine, and as long as its text
shown_fine : (s : Sheet) (room n : ℕ) → show_of s room ≡ given n → (judge_of s ≡ fine) × (n ≡ length (text_of s))
unfolding show_of
shown_fine s room n e =
    let a = also_given (judge_of s) (also (when (ltb room (length (text_of s))) 14) (given (length (text_of s)))) e in
    let b = also_given (when (ltb room (length (text_of s))) 14) (given (length (text_of s))) a.1 in
    let c = b.1 in (a.0, cc)

-- The text of a sheet that is judged fine says that sheet.
pub parse_text : (s : Sheet) → judge_of s ≡ fine → RanksFit s → parse_of (text_of s) ≡ Ok (cleared s)
unfolding parse_of
parse_text s e fit =
    let text = text_of s in
    let r = read_back s (judged_sound s e) fit in
    ap₂ (λ t y. cond t (Err (faulty TooLong (take 16384 text))) (settled (located text y))) (le-ltb 16384 (length text) (omega (arith, text_short s))) r.reads
    ∙ ap Ok r.same

-- What `show` put into the first n bytes, `parse` answers with the same sheet, the unused places zero.
pub show_parse : (s : Sheet) (old new : List ℕ) (n : ℕ) (x : Result Sheet Fault) → RanksFit s → ShowPromise s old (Ok n) new → ParsePromise (take n new) x → x ≡ Ok (cleared s)
show_parse s old new n x fit h p =
    let f = shown_fine s (length old) n (sym h.0) in
    let front : take n new ≡ text_of s = ap (take n) h.1 ∙ take_at (text_of s) (drop (length (text_of s)) old) n (sym f.1) in
    p ∙ ap parse_of front ∙ parse_text s f.0 fit

-- a sheet that was read has its unused places zero
read_cleared : (bytes : List ℕ) (s : Sheet) → AreBytes bytes → read_of bytes ≡ given s → cleared s ≡ s
read_cleared bytes s fit e =
    let j = read_judged bytes s e in
    let q : given (cleared s) ≡ given s = sym (encoded_read s j.1 j.0) ∙ ap read_of (read_encoded bytes s fit e) ∙ e in cc

-- So what stands on the page is what the bytes say: the sheet that was read from them is the one that its text says.
pub read_show_parse : (bytes old new : List ℕ) (s : Sheet) (n : ℕ) (x : Result Sheet Fault) → AreBytes bytes → ReadPromise bytes (Ok s)
    → ShowPromise s old (Ok n) new → ParsePromise (take n new) x → x ≡ Ok s
read_show_parse bytes old new s n x fit r shown parsed =
    let e : read_of bytes ≡ given s = sym r in
    show_parse s old new n x (read_judged bytes s e).1 shown parsed ∙ ap Ok (read_cleared bytes s fit e)
