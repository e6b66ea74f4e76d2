-- `script::line::parse_line` meets its contract: each way is taken by the words that the split gave.
use Rattle.std.proofs.Common.{rules}
use Rattle.script.proofs.Words.{all_left, letter_short, letter_long, no_numbers, one_bad, one_good, many_words, first_bad, second_bad, two_good}
use Rattle.script.proofs.line.parse_line.Goals as goal

pub returns-in_default : goal.returns-in_default
returns-in_default c =
    let w =
    all_left _ c.split-words.result c.next.new.self _ c.next.ensures.steps _ c.split-words.ensures.rest c.split-words.ensures.done _
    c.split-words.ensures.closure (λ b t q k. search rules) in
    search (rules, letter_short)

pub returns-in_default-4 : goal.returns-in_default-4
returns-in_default-4 c =
    let w =
    all_left _ c.split-words.result c.next.new.self _ c.next.ensures.steps _ c.split-words.ensures.rest c.split-words.ensures.done _
    c.split-words.ensures.closure (λ b t q k. search rules) in
    search (rules, letter_long)

pub returns-in-None-default-default : goal.returns-in-None-default-default
returns-in-None-default-default c =
    let w =
    all_left _ c.split-words.result c.next.new.self _ c.next.ensures.steps _ c.split-words.ensures.rest c.split-words.ensures.done _
    c.split-words.ensures.closure (λ b t q k. search rules) in
    search (rules, no_numbers)

pub returns-in_err-parse_number-in-Some-None-default : goal.returns-in_err-parse_number-in-Some-None-default
returns-in_err-parse_number-in-Some-None-default c =
    let w =
    all_left _ c.split-words.result c.next.new.self _ c.next.ensures.steps _ c.split-words.ensures.rest c.split-words.ensures.done _
    c.split-words.ensures.closure (λ b t q k. search rules) in
    search (rules, one_bad)

pub returns-in_ok-parse_number-in-Some-None-default : goal.returns-in_ok-parse_number-in-Some-None-default
returns-in_ok-parse_number-in-Some-None-default c =
    let w =
    all_left _ c.split-words.result c.next.new.self _ c.next.ensures.steps _ c.split-words.ensures.rest c.split-words.ensures.done _
    c.split-words.ensures.closure (λ b t q k. search rules) in
    search (rules, one_good)

pub returns-in_err-parse_number-in-Some-Some-None : goal.returns-in_err-parse_number-in-Some-Some-None
returns-in_err-parse_number-in-Some-Some-None c =
    let w =
    all_left _ c.split-words.result c.next.new.self _ c.next.ensures.steps _ c.split-words.ensures.rest c.split-words.ensures.done _
    c.split-words.ensures.closure (λ b t q k. search rules) in
    search (rules, first_bad)

pub returns-in_err-parse_number-in-Some-Some-None-2 : goal.returns-in_err-parse_number-in-Some-Some-None-2
returns-in_err-parse_number-in-Some-Some-None-2 c =
    let w =
    all_left _ c.split-words.result c.next.new.self _ c.next.ensures.steps _ c.split-words.ensures.rest c.split-words.ensures.done _
    c.split-words.ensures.closure (λ b t q k. search rules) in
    search (rules, second_bad)

pub returns-in_ok-parse_number-in-Some-Some-None-2 : goal.returns-in_ok-parse_number-in-Some-Some-None-2
returns-in_ok-parse_number-in-Some-Some-None-2 c =
    let w =
    all_left _ c.split-words.result c.next.new.self _ c.next.ensures.steps _ c.split-words.ensures.rest c.split-words.ensures.done _
    c.split-words.ensures.closure (λ b t q k. search rules) in
    search (rules, two_good)

pub returns-in_default-2 : goal.returns-in_default-2
returns-in_default-2 c =
    let w =
    all_left _ c.split-words.result c.next.new.self _ c.next.ensures.steps _ c.split-words.ensures.rest c.split-words.ensures.done _
    c.split-words.ensures.closure (λ b t q k. search rules) in
    search (rules, many_words)
