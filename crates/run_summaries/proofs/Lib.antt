mod CountSteps
