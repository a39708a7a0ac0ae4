mod Again
