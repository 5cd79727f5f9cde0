-- A script as it is written, with the place of each token. What holds no expression and no statement is the very type of the tree in memory.
use Rattle.std.specs.Prelude.{ℕ, ℤ, List, Option}
use Rattle.nb_script.specs.declared.expr.Unary.{Unary}
use Rattle.nb_script.specs.declared.expr.Binary.{Binary}
use Rattle.nb_script.specs.declared.expr.Constant.{Constant as ConstantWord}
use Rattle.nb_script.specs.declared.expr.Holder.{Holder}
use Rattle.nb_script.specs.declared.expr.Function.{Function}
use Rattle.nb_script.specs.declared.expr.TypeName.{TypeName}
use Rattle.nb_script.specs.declared.stmt.Destination.{Destination}
use Rattle.nb_script.specs.declared.stmt.Refusal.{Refusal}
use Rattle.nb_script.specs.declared.item.Field.{Field as FieldLine}
use Rattle.nb_script.specs.declared.item.MessageField.{MessageField}
use Rattle.nb_script.specs.declared.item.SagaField.{SagaField}
use Rattle.nb_script.specs.declared.item.Revision.{Revision}
use Rattle.nb_script.specs.declared.item.Finder.{Finder}
use Rattle.nb_script.specs.declared.item.Answer.{Answer}

-- ---- expressions

pub data Term : Type 0 where
  Number : (at : ℕ) (value : ℤ) → Term
  Quoted : (at : ℕ) (text : List ℕ) → Term
  Constant : (at : ℕ) (constant : ConstantWord) → Term
  Field : (at : ℕ) (holder : Holder) (dot_at name_at : ℕ) (name : List ℕ) → Term
  Name : (at : ℕ) (name : List ℕ) → Term
  Call : (at : ℕ) (function : Function) (open_at : ℕ) (argument : Term) (close_at : ℕ) → Term
  Paren : (open_at : ℕ) (inner : Term) (close_at : ℕ) → Term
  Prefix : (at : ℕ) (op : Unary) (operand : Term) → Term
  Infix : (left : Term) (at : ℕ) (op : Binary) (right : Term) → Term

-- a field of a message that is made
pub record ArgTerm : Type 0 where
  pub at : ℕ
  pub name : List ℕ
  pub colon_at : ℕ
  pub value : Term
  pub comma_at : Option ℕ

-- a message that is made
pub record MakeTerm : Type 0 where
  pub name : TypeName
  pub open_at : ℕ
  pub args : List ArgTerm
  pub close_at : ℕ

-- ---- statements

pub record RowTerm : Type 0 where
  pub at : ℕ
  pub open_at : ℕ
  pub name : Term
  pub close_at : ℕ

pub record AfterTerm : Type 0 where
  pub at : ℕ
  pub delay : Term

mutual
  pub data Phrase : Type 0 where
    Let : (at name_at : ℕ) (name : List ℕ) (equals_at : ℕ) (value : Term) (semi_at : ℕ) → Phrase
    Set : (at field_at : ℕ) (field : List ℕ) (equals_at : ℕ) (value : Term) (semi_at : ℕ) → Phrase
    Put : (at : ℕ) (row : RowTerm) (equals_at : ℕ) (value : Term) (semi_at : ℕ) → Phrase
    Add : (at : ℕ) (row : RowTerm) (by_at : ℕ) (value : Term) (semi_at : ℕ) → Phrase
    Erase : (at : ℕ) (row : RowTerm) (semi_at : ℕ) → Phrase
    Send : (after : Option AfterTerm) (at : ℕ) (to : Destination) (make : MakeTerm) (semi_at : ℕ) → Phrase
    Publish : (at : ℕ) (make : MakeTerm) (semi_at : ℕ) → Phrase
    Reply : (at : ℕ) (originator_at : Option ℕ) (make : MakeTerm) (semi_at : ℕ) → Phrase
    Timeout : (at : ℕ) (delay : Term) (make : MakeTerm) (semi_at : ℕ) → Phrase
    Complete : (at semi_at : ℕ) → Phrase
    Refuse : (at : ℕ) (refusal : Refusal) (name_at : ℕ) (name : List ℕ) (text : Term) (semi_at : ℕ) → Phrase
    If : (at : ℕ) (test : Term) (block : Braces) (otherwise : Otherwise) → Phrase

  pub data Phrases : Type 0 where
    Nil : Phrases
    Then : (first : Phrase) (others : Phrases) → Phrases

  pub data Braces : Type 0 where
    Brace : (open_at : ℕ) (body : Phrases) (close_at : ℕ) → Braces

  pub data Otherwise : Type 0 where
    Nothing : Otherwise
    Last : (at : ℕ) (block : Braces) → Otherwise
    Chain : (at if_at : ℕ) (test : Term) (block : Braces) (otherwise : Otherwise) → Otherwise

-- ---- items

pub data PartTerm : Type 0 where
  ByField : (at : ℕ) (finder : Finder) (name : TypeName) (by_at field_at : ℕ) (field : List ℕ) (block : Braces) → PartTerm
  ById : (at : ℕ) (answer : Answer) (name : TypeName) (block : Braces) → PartTerm

pub record SagaTerm : Type 0 where
  pub at : ℕ
  pub name_at : ℕ
  pub name : List ℕ
  pub revision : Option Revision
  pub on_at : ℕ
  pub correlation : FieldLine
  pub open_at : ℕ
  pub fields_at : ℕ
  pub fields_open_at : ℕ
  pub fields : List SagaField
  pub fields_close_at : ℕ
  pub parts : List PartTerm
  pub close_at : ℕ

pub data ItemTerm : Type 0 where
  Message : (at : ℕ) (name : TypeName) (open_at : ℕ) (fields : List MessageField) (close_at : ℕ) → ItemTerm
  Handler : (at : ℕ) (name : TypeName) (block : Braces) → ItemTerm
  Saga : SagaTerm → ItemTerm
