mod AnswerLaws
